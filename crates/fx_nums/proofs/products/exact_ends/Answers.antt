use Rattle.std.proofs.Common.{arith, to_z-of_z}
use Rattle.fx_nums.proofs.ProductLaws.{down_exact, up_exact}
use Rattle.fx_nums.proofs.products.exact_ends.Goals as goal

pub returns-clause-floor : goal.returns-clause-floor
returns-clause-floor c = grind (arith, to_z-of_z, down_exact)

pub returns-clause-ceil : goal.returns-clause-ceil
returns-clause-ceil c = grind (arith, to_z-of_z, up_exact)
