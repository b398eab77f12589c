use Rattle.std.proofs.Common.{List, length, arith, ap, rules, sym, ◌∙◌, subst, FitsSigned}
use mir.Syntax.{w128}
use Rattle.std.proofs.lemmas.Int.{ints, to_z-of_z}
use Rattle.std.proofs.Math.IntN.{ℤ, pos, ◌*ℤ◌}
use Rattle.fx_math.specs.Sums.{total}
use Rattle.fx_totals.specs.Kept.{AreUpTo, Kept, bound_in, greatest_sum_of_widths, kept_width}
use Rattle.fx_totals.proofs.Kept.{part_is}
use Rattle.fx_totals.proofs.totals.Totals.width_part.Goals as goal

pub returns-clause-value : goal.returns-clause-value
returns-clause-value g c =
    let wide : FitsSigned w128 c.products.result = search rules in
    to_z-of_z w128 c.products.result wide
    ∙ c.products.ensures.value
    ∙ part_is (length c.args.x.now) g.row.N c.line_at.result c.args.t c.deref.result.now
    c.self.inside.widths.items (bound_in c.args.x.now) c.requires.count c.line_at.ensures.value
    c.deref.ensures.value
    ∙ ap (λ (k : Kept). total k.size (λ i. kept_width k c.args.t i *ℤ pos (bound_in c.args.x.now i))) c.self.view_is

pub returns-clause-fits : goal.returns-clause-fits
returns-clause-fits g c =
    let fit = c.products.ensures.fits greatest_sum_of_widths
    (subst (λ (xs : List ℤ). AreUpTo greatest_sum_of_widths xs) (sym c.deref.ensures.value)
    c.self.invariant.widths_fit) in
    let wide : FitsSigned w128 c.products.result = search rules in
    rw (to_z-of_z w128 c.products.result wide) (
      fit.0,
      omega (arith, ints, fit.1, c.requires.count, c.self.invariant.rows_high),
    )
