use Rattle.std.proofs.Common.{arith, to_z-of_z}
use Rattle.fx_nums.specs.Fraction.{den_value}
use Rattle.fx_nums.proofs.ProductLaws.{down_wide, up_wide, lesser_quotient_within, greater_quotient_within}
use Rattle.fx_nums.proofs.products.wide_ends.Goals as goal

pub put_back-requires : goal.put_back-requires
put_back-requires c =
    grind (arith, to_z-of_z, lesser_quotient_within c.args.p c.args.num (den_value c.args.den) c.requires.operands)

pub put_back-requires-2 : goal.put_back-requires-2
put_back-requires-2 c =
    grind (arith, to_z-of_z, greater_quotient_within c.args.p c.args.num (den_value c.args.den) c.requires.operands)

pub returns-clause-floor : goal.returns-clause-floor
returns-clause-floor c = grind (arith, to_z-of_z, down_wide)

pub returns-clause-ceil : goal.returns-clause-ceil
returns-clause-ceil c = grind (arith, to_z-of_z, up_wide)
