use Rattle.std.proofs.Common.{◌≡◌, ◌+◌, List, rules, ap, ◌∙◌, sym, subst}
use Rattle.std.proofs.lemmas.List.{with_items_is, places}
use Rattle.std.proofs.Math.IntN.{ℤ}
use Rattle.std.specs.Vec.{with_items}
use Rattle.fx_net.specs.Tables.{net_of}
use Rattle.fx_nums.specs.Interval.{Interval}
use Rattle.fx_sweep.specs.Steps.{AreNarrow, AreNear, WidthsFit, carried_width, greatest, greatest_width}
use Rattle.fx_sweep.specs.Swept.{gain_in, interval_in}
use Rattle.fx_sweep.proofs.Turned.{where_ok, same_ranges, same_gains}
use Rattle.fx_sweep.proofs.numbers.Numbers.moment.Goals as goal

pub returns-clause-range : goal.returns-clause-range
returns-clause-range g c =
    let same : interval_in c.deref_mut.result.now ≡ interval_in c.args.self.now.carried.items =
    ap interval_in c.deref_mut.ensures.value ∙ ap (λ v. interval_in v.items) c.swap.ensures.y_after in
    c.turn.ensures.range
    ∙ same_ranges (net_of c.args.net.now) g.row.N _ _ _ _ _ _ same (ap gain_in c.deref_mut-5.ensures.value)
    (ap gain_in c.deref_mut-6.ensures.value)

pub returns-clause-input_gains : goal.returns-clause-input_gains
returns-clause-input_gains g c =
    let same : interval_in c.deref_mut.result.now ≡ interval_in c.args.self.now.carried.items =
    ap interval_in c.deref_mut.ensures.value ∙ ap (λ v. interval_in v.items) c.swap.ensures.y_after in
    let kept : (with_items c.args.self.now.input_gains c.turn.new.input_gains).items ≡ c.turn.new.input_gains =
    with_items_is c.args.self.now.input_gains c.turn.new.input_gains (search (rules, places)) in
    where_ok c.turn.result _ _ c.turn.ensures.input_gains (λ e.
    ap gain_in kept ∙ e ∙ same_gains (net_of c.args.net.now) g.row.N _ _ _ _ same
    (ap gain_in c.deref_mut-6.ensures.value))

pub returns-clause-narrow : goal.returns-clause-narrow
returns-clause-narrow g c =
    let kept : (with_items c.swap.new.x c.turn.new.carried).items ≡ c.turn.new.carried =
    with_items_is c.swap.new.x c.turn.new.carried (search (rules, places)) in
    where_ok c.turn.result _ _ c.turn.ensures.narrow (λ h.
    subst (λ (xs : List Interval). AreNarrow greatest carried_width xs) (sym kept) h)

pub returns-clause-widths_fit : goal.returns-clause-widths_fit
returns-clause-widths_fit g c b h =
    let kept : (with_items c.args.self.now.widths c.turn.new.widths).items ≡ c.turn.new.widths =
    with_items_is c.args.self.now.widths c.turn.new.widths (search (rules, places)) in
    let before : WidthsFit b c.deref_mut-4.result.now =
    subst (λ (xs : List ℤ). WidthsFit b xs) (sym c.deref_mut-4.ensures.value) h in
    subst (λ (xs : List ℤ). WidthsFit (b + greatest_width) xs) (sym kept) (c.turn.ensures.widths_fit b before)

pub returns-clause-near : goal.returns-clause-near
returns-clause-near g c =
    let kept : (with_items c.swap.new.y c.turn.new.weights).items ≡ c.turn.new.weights =
    with_items_is c.swap.new.y c.turn.new.weights (search (rules, places)) in
    where_ok c.turn.result _ _ c.turn.ensures.near (λ h. subst (λ (xs : List Interval). AreNear xs) (sym kept) h)
