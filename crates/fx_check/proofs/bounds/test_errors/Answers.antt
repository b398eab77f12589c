use Rattle.std.proofs.Common.{◌≡◌, ◌<◌, length, arith}
use Rattle.std.specs.Prelude.{Some}
use Rattle.std.proofs.lemmas.Grind.{common_steps}
use Rattle.fx_check.specs.Verdict.{failure_in, told_by}
use Rattle.fx_check.proofs.FirstFailures.{first_told}
use Rattle.fx_check.proofs.Steps.{error}
use Rattle.fx_check.proofs.bounds.test_errors.Goals as goal

pub returns-in_err-test_error : goal.returns-in_err-test_error
returns-in_err-test_error c =
    let inside : c.loop-o.o < length c.args.f.now.outputs = omega arith in
    let same : told_by c.from_residual.result ≡ told_by c.test_error.result = grind (arith, common_steps) in
    let some : told_by c.test_error.result ≡ Some (failure_in c.in_err-test_error.field-0.0) =
    grind (arith, common_steps) in
    first_told c.loop-o.o (length c.args.f.now.outputs) (error c.args.f.now c.args.p.now c.args.c.now) _ _ _
    inside c.loop-o.invariant c.test_error.ensures same some
