use Rattle.std.proofs.Common.{◌≡◌, ◌<◌, length, arith}
use Rattle.std.specs.Prelude.{Some}
use Rattle.std.proofs.lemmas.Grind.{common_steps}
use Rattle.fx_check.specs.Verdict.{failure_in, told_by}
use Rattle.fx_check.proofs.FirstFailures.{first_told}
use Rattle.fx_check.proofs.Steps.{sum}
use Rattle.fx_check.proofs.bounds.test_sums.Goals as goal

pub returns-in_err-test_sum : goal.returns-in_err-test_sum
returns-in_err-test_sum c =
    let inside : c.loop-i.i < length c.args.p.now.rows = omega arith in
    let same : told_by c.from_residual.result ≡ told_by c.test_sum.result = grind (arith, common_steps) in
    let some : told_by c.test_sum.result ≡ Some (failure_in c.in_err-test_sum.field-0.0) =
    grind (arith, common_steps) in
    first_told c.loop-i.i (length c.args.p.now.rows) (sum c.args.p.now c.args.c.now) _ _ _ inside
    c.loop-i.invariant c.test_sum.ensures same some
