-- A sweep after a moment, or after several that repeat it.
use Rattle.std.proofs.Common.{◌≡◌, ◌≢◌, ℕ, suc, ◌+◌, ◌-◌, ◌≤◌, ◌⊎◌, inl, inr, None, arith, refl, sym}
use Rattle.std.proofs.Common.{ap, ◌∙◌, subst}
use Rattle.std.proofs.Math.IntN.{ℤ, pos, ◌+ℤ◌, ◌*ℤ◌}
use Rattle.std.proofs.lemmas.Bool.{cases_eq}
use Rattle.std.proofs.lemmas.Int.{ints}
use mathlib.Core.Path.{fun_ext}
use Rattle.fx_net.specs.Net.{Net}
use Rattle.fx_nums.specs.Arithmetic.{width}
use Rattle.fx_nums.specs.Interval.{Interval}
use Rattle.fx_sweep.specs.Gains.{widths, row_gain, input_gain}
use Rattle.fx_sweep.specs.Range.{range_at}
use Rattle.fx_sweep.specs.Standing.{GainsAreBelow, Stands}
use Rattle.fx_sweep.specs.Steps.{GainsFit, IsMoved, settled_rows, state_of}
use Rattle.fx_sweep.specs.Swept.{Swept, gain_in, last_inputs, whole_in}
use Rattle.fx_sweep.specs.Target.{start_of}
use Rattle.fx_sweep.specs.Weights.{carried, carry, settle, settled, to_input}
use Rattle.fx_sweep.specs.declared.numbers.Numbers.{Numbers}
use Rattle.fx_sweep.specs.declared.target.Target.{Target}
use Rattle.fx_sweep.proofs.OnceMore.{inputs_raised, rows_raised, widened}
use Rattle.fx_sweep.proofs.Repeated.{is_repeated, no_range_met}
use Rattle.fx_sweep.proofs.Sweeping.{moment_more}

once : (a w : ℤ) → a +ℤ pos 1 *ℤ w ≡ a +ℤ w
once a w = omega (arith, ints)

module _ (net : Net) (n : ℕ) (target : Target) (m count made more : ℕ) (s t : Numbers) (e : net.rows ≡ n)
    (swept : Swept (state_of count made None s) net target m) (none : range_at net (start_of target) m ≡ None) where
  by_one : IsMoved net n s t 1 → Swept (state_of (count + 1) more None t) net target (m + 1)
  by_one moved =
      moment_more net n target m count made more s t e swept none moved.carried_is moved.inputs_are
      (moved.widths_rise ∙ fun_ext (λ i. once (whole_in s.widths.items i) (width (settled_rows net n s i))))
      (moved.row_gains_rise ∙ fun_ext (λ i. omega arith)) (moved.input_gains_rise ∙ fun_ext (λ j. omega arith))

  same_rows : settled_rows net n s ≡ settled net (start_of target) m
  same_rows = ap (settle net n) swept.is_carried ∙ ap (λ (k : ℕ). settle net k
      (carried net (start_of target) m)) (sym e)

  by_several : (k : ℕ) → 1 ≤ k → k ≢ 1 → IsMoved net n s t k → GainsFit t.row_gains.items →
      GainsFit t.input_gains.items → Swept (state_of (count + k) more None t) net target (m + k)
  by_several k some several moved rows_fit ports_fit =
      let start : ℕ → Interval = start_of target in
      let stands : Stands net start m =
      ap (carry net) (sym same_rows) ∙ sym moved.carried_is ∙ moved.stands several ∙ swept.is_carried in
      let rises = is_repeated net start m stands k in
      let last : m + k ≡ suc (m + (k - 1)) = omega (arith, some) in
      let rows : gain_in t.row_gains.items ≡ row_gain net start (m + k) =
      moved.row_gains_rise ∙ ap (λ g. rows_raised k g (settled_rows net n s)) swept.has_row_gains
      ∙ ap (rows_raised k (row_gain net start m)) same_rows ∙ fun_ext (λ i. sym (rises.row_gains_rise i)) in
      let ports : gain_in t.input_gains.items ≡ input_gain net start (m + k) =
      moved.input_gains_rise
      ∙ ap (λ g. inputs_raised k g (to_input net (settled_rows net n s))) swept.has_input_gains
      ∙ ap (λ (x : ℕ → Interval). inputs_raised k (input_gain net start m) (to_input net x)) same_rows
      ∙ fun_ext (λ j. sym (rises.input_gains_rise j)) in
      let below : GainsAreBelow net start (m + k) = record {
        rows = λ i. (let x = ap (λ f. f i) rows in omega (arith, x, rows_fit i));
        ports = λ j. (let x = ap (λ f. f j) ports in omega (arith, x, ports_fit j));
      } in
      record {
        counted = ap (λ x. x + k) swept.counted;
        no_range = refl;
        within = no_range_met net start m stands k (rw swept.within none) below;
        is_carried = moved.stands several ∙ swept.is_carried ∙ sym rises.carried_stay;
        has_inputs = moved.inputs_are ∙ ap (to_input net) same_rows
            ∙ sym (is_repeated net start m stands (k - 1)).inputs_stay ∙ sym (ap (last_inputs net start) last);
        has_widths = moved.widths_rise ∙ ap (λ w. widened k w (settled_rows net n s)) swept.has_widths
            ∙ ap (widened k (widths net start m)) same_rows ∙ fun_ext (λ i. sym (rises.widths_rise i));
        has_row_gains = rows;
        has_input_gains = ports;
      }

  pub moments_more : (k : ℕ) → 1 ≤ k → IsMoved net n s t k → GainsFit t.row_gains.items →
      GainsFit t.input_gains.items → Swept (state_of (count + k) more None t) net target (m + k)
  moments_more k some moved rows_fit ports_fit = by_count (cases_eq k 1)
    where
      by_count : (k ≡ 1) ⊎ (k ≡ 1 → ⊥) → Swept (state_of (count + k) more None t) net target (m + k)
      by_count (inl one) = subst (λ x. Swept (state_of (count + x) more None t) net target (m + x)) (sym one)
          (by_one (subst (λ x. IsMoved net n s t x) one moved))
      by_count (inr several) = by_several k some several moved rows_fit ports_fit
