use Rattle.std.proofs.Common.{◌≡◌, drop}
use Rattle.fx_nums.specs.Whole.{digits_from}
use Rattle.fx_nums.proofs.whole.front_digits.Given as goal

abbrev pub invariant-loop-i : goal.invariant-loop-i
invariant-loop-i l = digits_from l.limit l.value (drop l.i l.text) ≡ digits_from l.limit 0 l.text
