use Rattle.std.proofs.Common.{◌≡◌, ◌≤◌, ◌∙◌, arith, rules, pos, replicate, subst, sym, length, drop}
use Rattle.std.proofs.lemmas.List.{take_at}
use Rattle.fx_msb.specs.declared.widths.TheConstants.{GREATEST_BOUND}
use Rattle.fx_totals.specs.Filled.{length_in}
use Rattle.fx_totals.specs.Kept.{bound_in}
use Rattle.fx_block.specs.Raising.{least_by_raises}
use Rattle.fx_block.specs.Told.{Tells}
use Rattle.fx_gain.specs.Lengths.{bound_alone, raises_up}
use Rattle.fx_gain.proofs.Bounding.{told_below}
use Rattle.fx_gain.proofs.bounds.RowBounds.raise.Goals as goal

pub returns : goal.returns
returns g c net targets lengths filled =
    let n = c.args.totals.now.leading in
    let caps : c.deref.result.now ≡ replicate g.row.N (pos GREATEST_BOUND) =
    c.deref.ensures.value ∙ c.self.invariant.caps_are in
    let few : n ≤ g.row.N = omega (arith, c.totals_fit.ensures.fits.leading_rows, c.totals_fit.ensures.size) in
    let long : length c.least_bounds.new.x ≡ c.self.inside.x.len = search rules in
    subst (λ xs. Tells (raises_up net n (length_in lengths) (bound_alone c.args.f.now c.args.j)) c.least_bounds.result
    (bound_in xs))
    (sym (take_at c.least_bounds.new.x (drop (length c.least_bounds.new.x) c.self.inside.x.items) c.self.inside.x.len
    long))
    (told_below net g.row.N n (length_in lengths) (bound_alone c.args.f.now c.args.j) c.deref.result.now
    c.least_bounds.result (bound_in c.least_bounds.new.x) caps few
    (subst (λ b. Tells (least_by_raises net n (length_in lengths) b (bound_in c.deref.result.now))
    c.least_bounds.result (bound_in c.least_bounds.new.x)) c.bounds_alone-bounds.ensures.value
    (c.least_bounds.ensures.end net targets lengths filled)))
