use Rattle.std.proofs.Common.{arith, to_z-of_z, FitsSigned, ◌*ℤ◌, ◌^◌, mul-le-mul}
use Rattle.std.specs.Int.{w128}
use Rattle.std.proofs.lemmas.Int.{fits_signed_mul, unsigned_abs-mul}
use Rattle.fx_nums.proofs.ends.end_product.Goals as goal

pub returns-clause-value : goal.returns-clause-value
returns-clause-value c =
    let a_fits = c.ranges.a in
    let b_fits = c.ranges.b in
    let product_fits : FitsSigned w128 (c.args.a *ℤ c.args.b) =
    fits_signed_mul w128 c.args.a c.args.b (2 ^ 56) (2 ^ 56) c.requires.left c.requires.right (omega arith) in
    simp to_z-of_z

pub returns-clause-bound : goal.returns-clause-bound
returns-clause-bound c =
    let a_fits = c.ranges.a in
    let b_fits = c.ranges.b in
    let product_fits : FitsSigned w128 (c.args.a *ℤ c.args.b) =
    fits_signed_mul w128 c.args.a c.args.b (2 ^ 56) (2 ^ 56) c.requires.left c.requires.right (omega arith) in
    simp to_z-of_z (omega (arith, unsigned_abs-mul c.args.a c.args.b, mul-le-mul c.requires.left c.requires.right))
