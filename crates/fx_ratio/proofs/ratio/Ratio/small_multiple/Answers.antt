use Rattle.std.proofs.Common.{rules, arith, to_z-of_z, ◌≡◌, true, ◌*ℤ◌, ◌∙◌, sym}
use Rattle.fx_math.specs.Division.{floor_div, ceil_div}
use Rattle.fx_nums.specs.Fraction.{den_value}
use Rattle.fx_nums.specs.Products.{IsOperands, IsRoundedProduct, is_exact}
use Rattle.fx_nums.proofs.ProductLaws.{rounded_product, down_exact, up_exact}
use Rattle.fx_ratio.proofs.Signs.{same_ends, small_is_exact}
use Rattle.fx_ratio.proofs.ratio.Ratio.small_multiple.Goals as goal

rounded : (c : goal.After-small_span) → IsRoundedProduct c.args.w c.args.self.num (den_value c.args.self.den)
    c.small_span.result.lo c.small_span.result.hi
rounded c =
    let w_fits = c.ranges.w in
    let w = c.args.w in
    let num = c.args.self.num in
    let den = den_value c.args.self.den in
    let operands : IsOperands w num den = search rules in
    let exact : is_exact w num ≡ true =
    small_is_exact w num c.requires operands.num_in in
    let floor : c.small_span.result.lo ≡ floor_div (w *ℤ num) den = grind (arith, to_z-of_z) in
    let ceil : c.small_span.result.hi ≡ ceil_div (w *ℤ num) den = grind (arith, to_z-of_z) in
    rounded_product w num den c.small_span.result.lo c.small_span.result.hi operands
    (floor ∙ sym (down_exact w num den exact)) (ceil ∙ sym (up_exact w num den exact))

pub returns-clause-ends : goal.returns-clause-ends
returns-clause-ends c =
    same_ends c.small_span.result _ _ (rounded c).low_is (rounded c).high_is

pub returns-clause-rounded : goal.returns-clause-rounded
returns-clause-rounded c = rounded c
