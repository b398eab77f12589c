use Rattle.std.proofs.Common.{arith, to_z-of_z}
use Rattle.fx_nums.proofs.QuotientLaws.{quotient_from}
use Rattle.fx_nums.proofs.ends.quotient_ends.Goals as goal

pub returns : goal.returns
returns c =
    quotient_from c.args.a c.args.b c.args.c c.args.d
    c.quotient_down.result c.quotient_down-2.result c.quotient_down-3.result c.quotient_down-4.result
    c.quotient_up.result c.quotient_up-2.result c.quotient_up-3.result c.quotient_up-4.result _ _ c.requires.c_in
    (grind (arith, to_z-of_z)) (grind (arith, to_z-of_z)) (grind (arith, to_z-of_z)) (grind (arith, to_z-of_z))
    (grind (arith, to_z-of_z)) (grind (arith, to_z-of_z)) (grind (arith, to_z-of_z)) (grind (arith, to_z-of_z)) (
      c.quotient_down.ensures.bound,
      c.quotient_down-2.ensures.bound,
      c.quotient_down-3.ensures.bound,
      c.quotient_down-4.ensures.bound,
    ) (
      c.quotient_up.ensures.bound,
      c.quotient_up-2.ensures.bound,
      c.quotient_up-3.ensures.bound,
      c.quotient_up-4.ensures.bound,
    )
    (grind (arith, to_z-of_z)) (grind (arith, to_z-of_z))
