use Rattle.std.proofs.Common.{arith, to_z-of_z}
use Rattle.fx_nums.proofs.ProductLaws.{max_below, min_below}
use Rattle.fx_nums.proofs.products.widened_products.Goals as goal

pub returns-clause-lesser_in : goal.returns-clause-lesser_in
returns-clause-lesser_in c = grind (arith, to_z-of_z, min_below)

pub returns-clause-greater_in : goal.returns-clause-greater_in
returns-clause-greater_in c = grind (arith, to_z-of_z, max_below)
