-- What is kept of a target are the parts of its total.
use Rattle.std.proofs.Common.{◌≡◌, ℕ, ◌*◌, ap, ap₂, sym, ◌∙◌, arith}
use Rattle.std.proofs.Math.IntN.{ℤ, pos, ◌+ℤ◌, ◌*ℤ◌, pos-*ℤ-pos}
use Rattle.std.proofs.lemmas.Int.{ints}
use Rattle.fx_math.specs.Sums.{total}
use Rattle.fx_math.proofs.Sums.{total_ext}
use Rattle.fx_eqs.specs.declared.limits.TheConstants.{PORTS}
use Rattle.fx_nums.specs.Interval.{Interval}
use Rattle.fx_net.specs.Net.{Net}
use Rattle.fx_sweep.specs.Gains.{widths, input_gain, rest}
use Rattle.fx_totals.specs.Totals.{input_part, rest_part, rounding, width_part}
use Rattle.fx_totals.specs.Filled.{HoldsTarget}
use Rattle.fx_totals.specs.Kept.{Kept, kept_gain, kept_rest, kept_rounding, kept_total, kept_width}
use Rattle.fx_error.specs.PartsOf.{ArePartsOf}
use Rattle.fx_error.specs.declared.parts.Parts.{Parts}

-- the sums of what is kept
pub record AreKept (k : Kept) (t : ℕ) (bounds rows : ℕ → ℕ) (parts : Parts) : Type 0 where
  pub rounding_is : parts.rounding ≡ kept_rounding k t
  pub difference_is : parts.difference ≡ total PORTS (λ j.
      kept_gain k t j *ℤ pos (bounds j)) +ℤ total k.size (λ i. kept_width k t i *ℤ pos (rows i))
  pub rest_is : parts.rest ≡ total k.size (λ i. kept_rest k t i *ℤ pos (rows i))

added : (a b c d x y z : ℤ) → x ≡ b → y ≡ a +ℤ c → z ≡ d → x +ℤ y +ℤ z ≡ a +ℤ b +ℤ c +ℤ d
added a b c d x y z e f g = omega (arith, ints, e, f, g)

pub parts_add_up : (k : Kept) (t : ℕ) (bounds rows : ℕ → ℕ) (parts : Parts) → AreKept k t bounds rows parts →
    parts.rounding +ℤ parts.difference +ℤ parts.rest ≡ kept_total k t bounds rows
parts_add_up k t bounds rows parts h =
    added (total PORTS (λ j. kept_gain k t j *ℤ pos (bounds j))) (kept_rounding k t)
    (total k.size (λ i. kept_width k t i *ℤ pos (rows i)))
    (total k.size (λ i. kept_rest k t i *ℤ pos (rows i)))
    parts.rounding parts.difference parts.rest h.rounding_is h.difference_is h.rest_is

pub are_parts : (k : Kept) (t : ℕ) (net : Net) (start : ℕ → Interval) (m : ℕ) (b r : ℕ → ℕ) (parts : Parts) →
    net.rows ≡ k.size → HoldsTarget k t net start m → AreKept k t b r parts → ArePartsOf net start m b r parts
are_parts k t net start m b r parts rows h kept =
    let inputs : total PORTS (λ j. kept_gain k t j *ℤ pos (b j)) ≡ input_part net start m b =
    total_ext PORTS (λ j. kept_gain k t j *ℤ pos (b j)) (λ j. pos (input_gain net start m j * b j)) (λ j l.
    ap (λ z. z *ℤ pos (b j)) (h.gains_are j l) ∙ pos-*ℤ-pos (input_gain net start m j) (b j)) in
    let widths_are : total k.size (λ i. kept_width k t i *ℤ pos (r i)) ≡ width_part net start m r =
    ap (λ n. total n (λ i. kept_width k t i *ℤ pos (r i))) (sym rows)
    ∙ total_ext net.rows (λ i. kept_width k t i *ℤ pos (r i)) (λ i. widths net start m i *ℤ pos (r i)) (λ i l.
    ap (λ z. z *ℤ pos (r i)) (h.widths_are i l)) in
    let rests_are : total k.size (λ i. kept_rest k t i *ℤ pos (r i)) ≡ rest_part net start m r =
    ap (λ n. total n (λ i. kept_rest k t i *ℤ pos (r i))) (sym rows)
    ∙ total_ext net.rows (λ i. kept_rest k t i *ℤ pos (r i)) (λ i. pos (rest net start m i * r i)) (λ i l.
    ap (λ z. z *ℤ pos (r i)) (h.rests_are i l) ∙ pos-*ℤ-pos (rest net start m i) (r i)) in
    let rounding_is = kept.rounding_is ∙ h.rounding_is in
    let difference_is = kept.difference_is ∙ ap₂ (λ x y. x +ℤ y) inputs widths_are in
    let rest_is = kept.rest_is ∙ rests_are in
    record {
      rounding_is = rounding_is;
      difference_is = difference_is;
      rest_is = rest_is;
      whole = added (input_part net start m b) (rounding net start m) (width_part net start m r)
          (rest_part net start m r) parts.rounding parts.difference parts.rest rounding_is difference_is rest_is;
    }
