use Rattle.std.proofs.Common.{◌≡◌, ◌<◌, length, arith}
use Rattle.std.specs.Prelude.{Some}
use Rattle.std.proofs.lemmas.Grind.{common_steps}
use Rattle.fx_check.specs.Verdict.{failure_in, told_by}
use Rattle.fx_check.proofs.FirstFailures.{first_told}
use Rattle.fx_check.proofs.Steps.{word}
use Rattle.fx_check.proofs.bounds.test_words.Goals as goal

pub returns-in_err-test_word : goal.returns-in_err-test_word
returns-in_err-test_word c =
    let inside : c.loop-i.i < length c.args.p.now.rows = omega arith in
    let same : told_by c.from_residual.result ≡ told_by c.test_word.result = grind (arith, common_steps) in
    let some : told_by c.test_word.result ≡ Some (failure_in c.in_err-test_word.field-0.0) =
    grind (arith, common_steps) in
    first_told c.loop-i.i (length c.args.p.now.rows) (word c.args.p.now c.args.c.now) _ _ _ inside
    c.loop-i.invariant c.test_word.ensures same some
