use Rattle.std.proofs.Common.{◌≡◌, ◌+◌, ◌*◌, List, rules, ap, refl, ◌∙◌, sym, subst}
use Rattle.std.proofs.lemmas.List.{with_items_is, places}
use Rattle.std.proofs.Math.IntN.{ℤ}
use Rattle.std.specs.Vec.{with_items}
use Rattle.fx_sweep.specs.Steps.{WidthsFit, greatest_width}
use Rattle.fx_sweep.specs.Swept.{gain_in, whole_in}
use Rattle.fx_sweep.proofs.OnceMore.{same_inputs, same_rows, same_widths}
use Rattle.fx_sweep.proofs.numbers.Numbers.repeat.Goals as goal

pub returns-clause-repeated : goal.returns-clause-repeated
returns-clause-repeated c =
    let widened : (with_items c.args.self.now.widths c.widen_rows.new.widths).items ≡ c.widen_rows.new.widths =
    with_items_is c.args.self.now.widths c.widen_rows.new.widths (search (rules, places)) in
    let rows : (with_items c.args.self.now.row_gains c.raise_rows.new.gains).items ≡ c.raise_rows.new.gains =
    with_items_is c.args.self.now.row_gains c.raise_rows.new.gains (search (rules, places)) in
    let ports : (with_items c.args.self.now.input_gains c.raise_inputs.new.gains).items ≡ c.raise_inputs.new.gains =
    with_items_is c.args.self.now.input_gains c.raise_inputs.new.gains (search (rules, places)) in
    record {
      carried_same = refl;
      inputs_same = refl;
      widths_rise = ap whole_in widened ∙ c.widen_rows.ensures.value
          ∙ same_widths c.args.times _ _ _ _ c.deref_mut.ensures.value c.deref-7.ensures.value;
      row_gains_rise = ap gain_in rows ∙ c.raise_rows.ensures.value
          ∙ same_rows c.args.times _ _ _ _ c.deref_mut-2.ensures.value c.deref-8.ensures.value;
      input_gains_rise = ap gain_in ports ∙ c.raise_inputs.ensures.value
          ∙ same_inputs c.args.times _ _ _ _ c.deref_mut-3.ensures.value c.deref-9.ensures.value;
    }

pub returns-clause-widths_fit : goal.returns-clause-widths_fit
returns-clause-widths_fit c b h =
    let widened : (with_items c.args.self.now.widths c.widen_rows.new.widths).items ≡ c.widen_rows.new.widths =
    with_items_is c.args.self.now.widths c.widen_rows.new.widths (search (rules, places)) in
    let before : WidthsFit b c.deref_mut.result.now =
    subst (λ (xs : List ℤ). WidthsFit b xs) (sym c.deref_mut.ensures.value) h in
    subst (λ (xs : List ℤ). WidthsFit (b + c.args.times * greatest_width) xs) (sym widened)
    (c.widen_rows.ensures.fit b before)
