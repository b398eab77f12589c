use Rattle.std.proofs.Common.{◌≡◌, map}
use Rattle.fx_bench.specs.Marks.{read_sum}
use Rattle.fx_bench.proofs.decimal.read_sum.Given as goal

abbrev pub invariant-loop-call : goal.invariant-loop-call
invariant-loop-call l = l.sum ≡ read_sum (map (λ text. text.now) l.numerals) l.call
