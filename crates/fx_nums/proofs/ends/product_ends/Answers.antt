use Rattle.std.proofs.Common.{arith, to_z-of_z}
use Rattle.fx_nums.proofs.EndLaws.{product_from}
use Rattle.fx_nums.proofs.ends.product_ends.Goals as goal

pub returns : goal.returns
returns c =
    product_from c.args.a c.args.b c.args.c c.args.d c.end_product.result c.end_product-2.result
    c.end_product-3.result c.end_product-4.result c.extremes.result.0 c.extremes.result.1
    (grind (arith, to_z-of_z)) (grind (arith, to_z-of_z)) (grind (arith, to_z-of_z)) (grind (arith, to_z-of_z))
    c.end_product.ensures.bound c.end_product-2.ensures.bound c.end_product-3.ensures.bound
    c.end_product-4.ensures.bound
    (grind (arith, to_z-of_z)) (grind (arith, to_z-of_z))
