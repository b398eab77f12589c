use Rattle.std.proofs.Common.{◌≡◌, ◌<◌, length, arith}
use Rattle.std.specs.Prelude.{Some}
use Rattle.std.proofs.lemmas.Grind.{common_steps}
use Rattle.fx_check.specs.Verdict.{failure_in, told_by}
use Rattle.fx_check.proofs.FirstFailures.{first_told}
use Rattle.fx_check.proofs.Steps.{output_width}
use Rattle.fx_check.proofs.form.test_outputs.Goals as goal

pub returns-in_err-test_output : goal.returns-in_err-test_output
returns-in_err-test_output c =
    let inside : c.loop-o.o < length c.args.f.now.outputs = omega arith in
    let same : told_by c.from_residual.result ≡ told_by c.test_output.result = grind (arith, common_steps) in
    let some : told_by c.test_output.result ≡ Some (failure_in c.in_err-test_output.field-0.0) =
    grind (arith, common_steps) in
    first_told c.loop-o.o (length c.args.f.now.outputs) (output_width c.args.f.now c.args.p.now) _ _ _ inside
    c.loop-o.invariant c.test_output.ensures same some
