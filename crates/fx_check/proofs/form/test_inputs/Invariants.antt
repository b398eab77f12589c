use Rattle.std.proofs.Common.{◌≡◌, None}
use Rattle.fx_block.specs.Failure.{first_of}
use Rattle.fx_check.proofs.Steps.{input_width}
use Rattle.fx_check.proofs.form.test_inputs.Given as goal

abbrev pub invariant-loop-j : goal.invariant-loop-j
invariant-loop-j l = first_of l.j (input_width l.f l.p) ≡ None
