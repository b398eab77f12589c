use Rattle.std.proofs.Common.{List, refl, rules, sym, subst, ◌∙◌, FitsSigned}
use mir.Syntax.{w128}
use Rattle.std.proofs.lemmas.Int.{to_z-of_z}
use Rattle.std.proofs.lemmas.List.{with_items_is, places}
use Rattle.std.proofs.Math.IntN.{ℤ, pos}
use Rattle.std.specs.Vec.{with_items}
use Rattle.fx_eqs.specs.declared.limits.TheConstants.{PORTS}
use Rattle.fx_nums.specs.Interval.{magnitude}
use Rattle.fx_net.specs.Tables.{net_of}
use Rattle.fx_sweep.specs.Swept.{carried_at, input_gain_at, width_at}
use Rattle.fx_totals.specs.Kept.{AreEarlierSame, AreUpTo, IsUpTo, Kept, greatest_gain, greatest_rounding}
use Rattle.fx_totals.specs.Kept.{greatest_sum_of_widths}
use Rattle.fx_totals.proofs.Lines.{kept_of, kept_earlier, kept_fits, kept_holds, line_put, one_put}
use Rattle.fx_totals.proofs.totals.Totals.keep.Goals as goal

pub invariant_of-self : goal.invariant_of-self
invariant_of-self g c =
    let rounding_fits : FitsSigned w128 c.rounding.result = search rules in
    let rounding_is = to_z-of_z w128 c.rounding.result rounding_fits in
    let roundings = one_put c.args.t greatest_rounding c.rounding.result c.self.inside.roundings.items
    c.deref_mut.result.now c.put.new.at (with_items c.self.inside.roundings c.put.new.at).items
    c.deref_mut.ensures.value
    (with_items_is c.self.inside.roundings c.put.new.at (search (rules, places))) c.put.ensures.count
    (c.put.ensures.here ∙ rounding_is) c.put.ensures.others
    (c.put.ensures.fits greatest_rounding (subst (λ (xs : List ℤ).
    AreUpTo greatest_rounding xs) (sym c.deref_mut.ensures.value) c.self.invariant.roundings_fit)
    (subst (λ x. IsUpTo greatest_rounding x) (sym rounding_is) c.rounding.ensures.fits)) in
    let gains = line_put PORTS c.args.t c.line_at.result greatest_gain c.self.inside.input_gains.items
    c.deref_mut-2.result.now c.copy_gains.new.at
    (with_items c.self.inside.input_gains c.copy_gains.new.at).items
    (λ j. pos (input_gain_at c.args.sweep.now j)) c.line_at.ensures.value c.deref_mut-2.ensures.value
    (with_items_is c.self.inside.input_gains c.copy_gains.new.at (search (rules, places)))
    c.copy_gains.ensures.count c.copy_gains.ensures.here c.copy_gains.ensures.before
    c.copy_gains.ensures.fits in
    let widths = line_put g.row.N c.args.t c.line_at-2.result greatest_sum_of_widths c.self.inside.widths.items
    c.deref_mut-3.result.now c.copy_widths.new.at (with_items c.self.inside.widths c.copy_widths.new.at).items
    (λ i. width_at c.args.sweep.now i) c.line_at-2.ensures.value c.deref_mut-3.ensures.value
    (with_items_is c.self.inside.widths c.copy_widths.new.at (search (rules, places)))
    c.copy_widths.ensures.count c.copy_widths.ensures.here c.copy_widths.ensures.before
    c.copy_widths.ensures.fits in
    let rests = line_put g.row.N c.args.t c.line_at-3.result greatest_gain c.self.inside.rests.items
    c.deref_mut-4.result.now c.copy_rests.new.at (with_items c.self.inside.rests c.copy_rests.new.at).items
    (λ i. pos (magnitude (carried_at c.args.sweep.now i))) c.line_at-3.ensures.value c.deref_mut-4.ensures.value
    (with_items_is c.self.inside.rests c.copy_rests.new.at (search (rules, places))) c.copy_rests.ensures.count
    c.copy_rests.ensures.here c.copy_rests.ensures.before c.copy_rests.ensures.fits in
    kept_fits g.row.N c.self.inside.filled c.self.inside.leading c.args.t _ _ _ _ _ _ _ _ _ _ _ _ roundings
    gains widths rests c.self.invariant

pub returns-clause-held : goal.returns-clause-held
returns-clause-held g c target m swept =
    let rounding_fits : FitsSigned w128 c.rounding.result = search rules in
    let rounding_is = to_z-of_z w128 c.rounding.result rounding_fits in
    let roundings = one_put c.args.t greatest_rounding c.rounding.result c.self.inside.roundings.items
    c.deref_mut.result.now c.put.new.at (with_items c.self.inside.roundings c.put.new.at).items
    c.deref_mut.ensures.value
    (with_items_is c.self.inside.roundings c.put.new.at (search (rules, places))) c.put.ensures.count
    (c.put.ensures.here ∙ rounding_is) c.put.ensures.others
    (c.put.ensures.fits greatest_rounding (subst (λ (xs : List ℤ).
    AreUpTo greatest_rounding xs) (sym c.deref_mut.ensures.value) c.self.invariant.roundings_fit)
    (subst (λ x. IsUpTo greatest_rounding x) (sym rounding_is) c.rounding.ensures.fits)) in
    let gains = line_put PORTS c.args.t c.line_at.result greatest_gain c.self.inside.input_gains.items
    c.deref_mut-2.result.now c.copy_gains.new.at
    (with_items c.self.inside.input_gains c.copy_gains.new.at).items
    (λ j. pos (input_gain_at c.args.sweep.now j)) c.line_at.ensures.value c.deref_mut-2.ensures.value
    (with_items_is c.self.inside.input_gains c.copy_gains.new.at (search (rules, places)))
    c.copy_gains.ensures.count c.copy_gains.ensures.here c.copy_gains.ensures.before
    c.copy_gains.ensures.fits in
    let widths = line_put g.row.N c.args.t c.line_at-2.result greatest_sum_of_widths c.self.inside.widths.items
    c.deref_mut-3.result.now c.copy_widths.new.at (with_items c.self.inside.widths c.copy_widths.new.at).items
    (λ i. width_at c.args.sweep.now i) c.line_at-2.ensures.value c.deref_mut-3.ensures.value
    (with_items_is c.self.inside.widths c.copy_widths.new.at (search (rules, places)))
    c.copy_widths.ensures.count c.copy_widths.ensures.here c.copy_widths.ensures.before
    c.copy_widths.ensures.fits in
    let rests = line_put g.row.N c.args.t c.line_at-3.result greatest_gain c.self.inside.rests.items
    c.deref_mut-4.result.now c.copy_rests.new.at (with_items c.self.inside.rests c.copy_rests.new.at).items
    (λ i. pos (magnitude (carried_at c.args.sweep.now i))) c.line_at-3.ensures.value c.deref_mut-4.ensures.value
    (with_items_is c.self.inside.rests c.copy_rests.new.at (search (rules, places))) c.copy_rests.ensures.count
    c.copy_rests.ensures.here c.copy_rests.ensures.before c.copy_rests.ensures.fits in
    kept_holds g.row.N c.self.inside.filled c.self.inside.leading c.args.t _ _ _ _ _ _ _ _ _ _ _ _ roundings
    gains widths rests c.args.sweep.now (net_of c.args.net.now) target m c.nets_fit.ensures.rows swept
    c.rounding.ensures.value (λ j. refl) (λ i. refl) (λ i. refl)

pub returns-clause-earlier : goal.returns-clause-earlier
returns-clause-earlier g c =
    let rounding_fits : FitsSigned w128 c.rounding.result = search rules in
    let rounding_is = to_z-of_z w128 c.rounding.result rounding_fits in
    let roundings = one_put c.args.t greatest_rounding c.rounding.result c.self.inside.roundings.items
    c.deref_mut.result.now c.put.new.at (with_items c.self.inside.roundings c.put.new.at).items
    c.deref_mut.ensures.value
    (with_items_is c.self.inside.roundings c.put.new.at (search (rules, places))) c.put.ensures.count
    (c.put.ensures.here ∙ rounding_is) c.put.ensures.others
    (c.put.ensures.fits greatest_rounding (subst (λ (xs : List ℤ).
    AreUpTo greatest_rounding xs) (sym c.deref_mut.ensures.value) c.self.invariant.roundings_fit)
    (subst (λ x. IsUpTo greatest_rounding x) (sym rounding_is) c.rounding.ensures.fits)) in
    let gains = line_put PORTS c.args.t c.line_at.result greatest_gain c.self.inside.input_gains.items
    c.deref_mut-2.result.now c.copy_gains.new.at
    (with_items c.self.inside.input_gains c.copy_gains.new.at).items
    (λ j. pos (input_gain_at c.args.sweep.now j)) c.line_at.ensures.value c.deref_mut-2.ensures.value
    (with_items_is c.self.inside.input_gains c.copy_gains.new.at (search (rules, places)))
    c.copy_gains.ensures.count c.copy_gains.ensures.here c.copy_gains.ensures.before
    c.copy_gains.ensures.fits in
    let widths = line_put g.row.N c.args.t c.line_at-2.result greatest_sum_of_widths c.self.inside.widths.items
    c.deref_mut-3.result.now c.copy_widths.new.at (with_items c.self.inside.widths c.copy_widths.new.at).items
    (λ i. width_at c.args.sweep.now i) c.line_at-2.ensures.value c.deref_mut-3.ensures.value
    (with_items_is c.self.inside.widths c.copy_widths.new.at (search (rules, places)))
    c.copy_widths.ensures.count c.copy_widths.ensures.here c.copy_widths.ensures.before
    c.copy_widths.ensures.fits in
    let rests = line_put g.row.N c.args.t c.line_at-3.result greatest_gain c.self.inside.rests.items
    c.deref_mut-4.result.now c.copy_rests.new.at (with_items c.self.inside.rests c.copy_rests.new.at).items
    (λ i. pos (magnitude (carried_at c.args.sweep.now i))) c.line_at-3.ensures.value c.deref_mut-4.ensures.value
    (with_items_is c.self.inside.rests c.copy_rests.new.at (search (rules, places))) c.copy_rests.ensures.count
    c.copy_rests.ensures.here c.copy_rests.ensures.before c.copy_rests.ensures.fits in
    subst (λ (k : Kept). AreEarlierSame c.args.t k
    (kept_of g.row.N c.self.inside.filled c.self.inside.leading
    (with_items c.self.inside.roundings c.put.new.at).items
    (with_items c.self.inside.input_gains c.copy_gains.new.at).items
    (with_items c.self.inside.widths c.copy_widths.new.at).items
    (with_items c.self.inside.rests c.copy_rests.new.at).items)) c.self.view_is
    (kept_earlier g.row.N c.self.inside.filled c.self.inside.leading c.args.t _ _ _ _ _ _ _ _ _ _ _ _
    roundings gains widths rests)
