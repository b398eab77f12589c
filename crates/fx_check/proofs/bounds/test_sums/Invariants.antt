use Rattle.std.proofs.Common.{◌≡◌, None}
use Rattle.fx_block.specs.Failure.{first_of}
use Rattle.fx_check.proofs.Steps.{sum}
use Rattle.fx_check.proofs.bounds.test_sums.Given as goal

abbrev pub invariant-loop-i : goal.invariant-loop-i
invariant-loop-i l = first_of l.i (sum l.p l.c) ≡ None
