use Rattle.std.proofs.Common.{◌≡◌, to_z-of_z, rules, subst}
use Rattle.fx_nums.specs.Fraction.{Fraction, den_value}
use Rattle.fx_nums.specs.Products.{IsRoundedProduct}
use Rattle.fx_ratio.proofs.ratios.Ratios.multiple.Goals as goal

pub returns-then-eq-clause-rounded : goal.returns-then-eq-clause-rounded
returns-then-eq-clause-rounded c =
    let fits = c.ranges.w in
    let same : c.index-kept.result.now ≡ c.args.coef = search rules in
    let rounded : IsRoundedProduct c.args.w c.index-kept.result.now.num (den_value c.index-kept.result.now.den)
    c.small_multiple.result.lo c.small_multiple.result.hi = simp to_z-of_z at c.small_multiple.ensures.rounded in
    subst (λ (x : Fraction). IsRoundedProduct c.args.w x.num (den_value x.den) c.small_multiple.result.lo
    c.small_multiple.result.hi) same rounded
