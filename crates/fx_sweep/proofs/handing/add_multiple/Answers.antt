use Rattle.std.proofs.Common.{◌≡◌, arith, rules, ap, ◌∙◌, set, get_or-set_same}
use Rattle.std.proofs.Math.IntN.{pos}
use Rattle.std.specs.Prelude.{unsigned_abs, FitsSigned}
use Rattle.std.specs.Int.{w128}
use Rattle.std.proofs.lemmas.Int.{to_z-of_z}
use Rattle.std.proofs.lemmas.List.{get_or_read}
use Rattle.fx_nums.specs.Fraction.{den_value}
use Rattle.fx_nums.specs.Interval.{Interval, plus, point}
use Rattle.fx_nums.specs.Products.{IsRoundedProduct}
use Rattle.fx_sweep.specs.Steps.{IsNarrow, product_bound, product_apart}
use Rattle.fx_sweep.specs.Swept.{interval_in}
use Rattle.fx_sweep.proofs.Added.{product_narrow, narrow_fits, plus_narrow}
use Rattle.fx_sweep.proofs.handing.add_multiple.Goals as goal

narrow : (c : goal.After-add) → IsNarrow product_bound product_apart c.multiple-product.result
narrow c =
    let fits : FitsSigned w128 c.lo.result = search rules in
    let rounded : IsRoundedProduct c.lo.result c.args.coef.num (den_value c.args.coef.den)
    c.multiple-product.result.lo c.multiple-product.result.hi =
    simp to_z-of_z at c.multiple-product.ensures.rounded in
    product_narrow c.lo.result c.args.coef.num (den_value c.args.coef.den) c.multiple-product.result
    (omega (arith, c.requires.weight, ap unsigned_abs c.lo.ensures.value)) rounded

pub add-requires-clause-right : goal.add-requires-clause-right
add-requires-clause-right c =
    let fits : FitsSigned w128 c.lo.result = search rules in
    let rounded : IsRoundedProduct c.lo.result c.args.coef.num (den_value c.args.coef.den)
    c.multiple-product.result.lo c.multiple-product.result.hi =
    simp to_z-of_z at c.multiple-product.ensures.rounded in
    narrow_fits _ (product_narrow c.lo.result c.args.coef.num (den_value c.args.coef.den)
    c.multiple-product.result (omega (arith, c.requires.weight, ap unsigned_abs c.lo.ensures.value)) rounded)

pub returns-clause-narrow : goal.returns-clause-narrow
returns-clause-narrow c b w h =
    let read : c.index-at-j.result ≡ interval_in c.args.at.now c.args.j =
    get_or_read c.args.at.now c.args.j c.index-at-j.result c.requires.place c.index-at-j.is (point (pos 0)) in
    let here : interval_in (set c.args.at.now c.args.j c.add.result) c.args.j ≡ c.add.result =
    get_or-set_same c.args.at.now c.args.j c.add.result (point (pos 0)) c.requires.place in
    let sum : c.add.result ≡ plus (interval_in c.args.at.now c.args.j) c.multiple-product.result =
    c.add.ensures ∙ ap (λ (x : Interval). plus x c.multiple-product.result) read in
    rw (here, sum) (plus_narrow _ _ b w product_bound product_apart h (narrow c))
