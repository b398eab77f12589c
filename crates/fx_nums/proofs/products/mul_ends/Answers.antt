use Rattle.std.proofs.Common.{rules, arith, to_z-of_z}
use Rattle.fx_nums.proofs.ProductLaws.{rounded_product}
use Rattle.fx_nums.proofs.products.mul_ends.Goals as goal

pub returns : goal.returns
returns c = rounded_product _ _ _ _ _ (search rules) (grind (arith, to_z-of_z)) (grind (arith, to_z-of_z))
