use Rattle.std.proofs.Common.{◌≡◌, None}
use Rattle.fx_block.specs.Failure.{first_of}
use Rattle.fx_check.proofs.Steps.{output_width}
use Rattle.fx_check.proofs.form.test_outputs.Given as goal

abbrev pub invariant-loop-o : goal.invariant-loop-o
invariant-loop-o l = first_of l.o (output_width l.f l.p) ≡ None
