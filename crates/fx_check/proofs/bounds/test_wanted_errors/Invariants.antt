use Rattle.std.proofs.Common.{◌≡◌, None}
use Rattle.fx_block.specs.Failure.{first_of}
use Rattle.fx_check.proofs.Steps.{wanted}
use Rattle.fx_check.proofs.bounds.test_wanted_errors.Given as goal

abbrev pub invariant-loop-o : goal.invariant-loop-o
invariant-loop-o l = first_of l.o (wanted l.f l.c) ≡ None
