use Rattle.std.proofs.Common.{to_z-of_z}
use Rattle.fx_nums.proofs.Narrow.{narrow_product}
use Rattle.fx_nums.proofs.products.is_product_narrow.Goals as goal

pub returns : goal.returns
returns c =
    let p_fits = c.ranges.p in
    let n_fits = c.ranges.num in
    narrow_product c.args.p c.args.num _ _ (simp to_z-of_z at c.unsigned_abs-size.ensures.value)
    (simp to_z-of_z at c.unsigned_abs-factor.ensures.value)
