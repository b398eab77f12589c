use Rattle.std.proofs.Common.{◌≡◌, ◌++◌, drop}
use Rattle.fx_keys.proofs.wholes.narrowed.Given as goal

-- what was put there and what is left are all numbers
abbrev pub invariant-loop-number : goal.invariant-loop-number
invariant-loop-number l = l.narrow.items ++ drop l.number-index l.numbers ≡ l.numbers
