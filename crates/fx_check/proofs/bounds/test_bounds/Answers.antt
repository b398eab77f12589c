use Rattle.std.proofs.Common.{◌≡◌, ◌<◌, arith}
use Rattle.std.specs.Prelude.{Some}
use Rattle.std.proofs.lemmas.Grind.{common_steps}
use Rattle.fx_block.specs.Passes.{row_count}
use Rattle.fx_check.specs.Verdict.{failure_in, told_by}
use Rattle.fx_check.proofs.FirstFailures.{first_told}
use Rattle.fx_check.proofs.Steps.{bound}
use Rattle.fx_check.proofs.bounds.test_bounds.Goals as goal

pub returns-in_err-test_bound : goal.returns-in_err-test_bound
returns-in_err-test_bound c =
    let inside : c.loop-j.j < row_count c.args.f.now c.args.p.now = omega arith in
    let same : told_by c.from_residual.result ≡ told_by c.test_bound.result = grind (arith, common_steps) in
    let some : told_by c.test_bound.result ≡ Some (failure_in c.in_err-test_bound.field-0.0) =
    grind (arith, common_steps) in
    first_told c.loop-j.j (row_count c.args.f.now c.args.p.now) (bound c.args.f.now c.args.p.now c.args.c.now)
    _ _ _ inside c.loop-j.invariant c.test_bound.ensures same some
