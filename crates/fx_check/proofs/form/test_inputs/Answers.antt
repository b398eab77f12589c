use Rattle.std.proofs.Common.{◌≡◌, ◌<◌, length, arith}
use Rattle.std.specs.Prelude.{Some}
use Rattle.std.proofs.lemmas.Grind.{common_steps}
use Rattle.fx_check.specs.Verdict.{failure_in, told_by}
use Rattle.fx_check.proofs.FirstFailures.{first_told}
use Rattle.fx_check.proofs.Steps.{input_width}
use Rattle.fx_check.proofs.form.test_inputs.Goals as goal

pub returns-in_err-test_input : goal.returns-in_err-test_input
returns-in_err-test_input c =
    let inside : c.loop-j.j < length c.args.f.now.inputs = omega arith in
    let same : told_by c.from_residual.result ≡ told_by c.test_input.result = grind (arith, common_steps) in
    let some : told_by c.test_input.result ≡ Some (failure_in c.in_err-test_input.field-0.0) =
    grind (arith, common_steps) in
    first_told c.loop-j.j (length c.args.f.now.inputs) (input_width c.args.f.now c.args.p.now) _ _ _ inside
    c.loop-j.invariant c.test_input.ensures same some
