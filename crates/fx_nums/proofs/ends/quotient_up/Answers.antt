use Rattle.std.proofs.Common.{arith, to_z-of_z}
use Rattle.std.proofs.lemmas.Grind.{common_steps}
use Rattle.fx_nums.proofs.QuotientLaws.{up_of_negative}
use Rattle.std.proofs.lemmas.Int.{ints}
use Rattle.fx_nums.proofs.ends.quotient_up.Goals as goal

pub returns-else-y-gt0-clause-value : goal.returns-else-y-gt0-clause-value
returns-else-y-gt0-clause-value c =
    let known = up_of_negative c.args.x c.args.y (omega (arith, ints)) c.requires.y_in in
    grind (arith, common_steps, to_z-of_z, known)
