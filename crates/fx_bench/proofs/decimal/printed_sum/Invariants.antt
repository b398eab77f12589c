use Rattle.std.proofs.Common.{◌≡◌}
use Rattle.fx_bench.specs.Marks.{printed_sum}
use Rattle.fx_bench.proofs.decimal.printed_sum.Given as goal

abbrev pub invariant-loop-call : goal.invariant-loop-call
invariant-loop-call l = l.sum ≡ printed_sum l.values l.call
