-- Empty rows behind a net: its sweep has the same numbers with and without them, and reaches its limit at the same
-- place.
use Rattle.std.proofs.Common.{◌≡◌, ℕ, zero, suc, ◌+◌, ◌-◌, ◌*◌, ◌<◌, ◌≤◌, arith, refl, ap, ap₂, sym, ◌∙◌}
use Rattle.std.proofs.Math.IntN.{pos, ◌+ℤ◌, ◌*ℤ◌}
use Rattle.std.specs.Prelude.{unsigned_abs}
use Rattle.std.specs.Option.{option_or}
use mathlib.Core.Path.{fun_ext}
use Rattle.std.proofs.lemmas.Int.{ints}
use Rattle.fx_math.specs.Division.{ceil_div}
use Rattle.fx_math.specs.Sums.{total, sum_below}
use Rattle.fx_math.proofs.Sums.{total_ext, total_zero}
use Rattle.fx_eqs.specs.declared.limits.TheConstants.{PORTS}
use Rattle.fx_nums.specs.Arithmetic.{width}
use Rattle.fx_nums.specs.Interval.{Interval, magnitude, point}
use Rattle.fx_net.specs.Net.{Net}
use Rattle.fx_sweep.specs.Gains.{widths, row_gain, input_gain, rest}
use Rattle.fx_sweep.specs.Range.{value_at, places, first_range, range_at, first_range_in}
use Rattle.fx_sweep.specs.Target.{TargetFits, start_of}
use Rattle.fx_sweep.specs.Weights.{carried, settled, inputs}
use Rattle.fx_sweep.specs.declared.target.Place.{Place}
use Rattle.fx_sweep.specs.declared.target.Place.TheVariants.{Weight, Gain, Input, Rest}
use Rattle.fx_sweep.specs.declared.target.Target.{Target}
use Rattle.fx_sweep.proofs.FirstRanges.{places_shorter}
use Rattle.fx_totals.specs.Padding.{IsPadded, EmptyRowsChangeNothing}
use Rattle.fx_totals.specs.Totals.{input_part, rounding, width_part, rest_part, target_total}
use Rattle.fx_totals.proofs.Padded.{total_shorter, carried_same, settled_same, inputs_same, carried_ends, settled_ends}

-- ---- the same numbers

sum_nothing : (n : ℕ) (f : ℕ → ℕ) → ((i : ℕ) → f i ≡ 0) → sum_below n f ≡ 0
sum_nothing zero f none = refl
sum_nothing (suc n) f none = omega (arith, sum_nothing n f none, none n)

no_magnitude : (x : Interval) → x ≡ point (pos 0) → magnitude x ≡ 0
no_magnitude x e = ap magnitude e ∙ refl

no_weight : (x : Interval) → x ≡ point (pos 0) → unsigned_abs x.lo ≡ 0
no_weight x e = ap (λ (y : Interval). unsigned_abs y.lo) e ∙ refl

module _ (a b : Net) (pad : IsPadded a b) where
  settled_all : (start : ℕ → Interval) → settled a start ≡ settled b start
  settled_all start = fun_ext (λ n. settled_same a b pad start n)

  inputs_all : (start : ℕ → Interval) → inputs a start ≡ inputs b start
  inputs_all start = fun_ext (λ n. inputs_same a b pad start n)

  widths_same : (start : ℕ → Interval) (m i : ℕ) → widths a start m i ≡ widths b start m i
  widths_same start m i = ap (λ (s : ℕ → ℕ → Interval). total m (λ n. width (s n i))) (settled_all start)

  row_gain_same : (start : ℕ → Interval) (m i : ℕ) → row_gain a start m i ≡ row_gain b start m i
  row_gain_same start m i =
      ap (λ (s : ℕ → ℕ → Interval). sum_below m (λ n. unsigned_abs (s n i).lo)) (settled_all start)

  input_gain_same : (start : ℕ → Interval) (m j : ℕ) → input_gain a start m j ≡ input_gain b start m j
  input_gain_same start m j = ap (λ (s : ℕ → ℕ → Interval). sum_below m (λ n. magnitude (s n j))) (inputs_all start)

  rest_same : (start : ℕ → Interval) (m i : ℕ) → rest a start m i ≡ rest b start m i
  rest_same start m i = ap (λ (s : ℕ → Interval). magnitude (s i)) (carried_same a b pad start m)

  value_same : (start : ℕ → Interval) (n : ℕ) (p : Place) → value_at a start n p ≡ value_at b start n p
  value_same start n (Weight i) = ap (λ (s : ℕ → Interval). magnitude (s i)) (settled_same a b pad start n)
  value_same start n (Gain i) = row_gain_same start (suc n) i
  value_same start n (Input j) = input_gain_same start (suc n) j
  value_same start n (Rest i) = rest_same start (suc n) i

  range_same : (target : Target) → TargetFits a.rows target → (n : ℕ) →
      range_at a (start_of target) n ≡ range_at b (start_of target) n
  range_same target fits n =
      places_shorter (value_at a (start_of target) n) a.rows
      (λ i l. no_magnitude (settled a (start_of target) n i) (settled_ends a b pad target fits n i l))
      (λ i l. sum_nothing (suc n) (λ k. unsigned_abs (settled a (start_of target) k i).lo) (λ k.
      no_weight (settled a (start_of target) k i) (settled_ends a b pad target fits k i l)))
      (λ i l. no_magnitude (carried a (start_of target) (suc n) i) (carried_ends a b pad target fits (suc n) i l))
      b.rows pad.rows
      ∙ ap (λ (value : Place → ℕ). first_range value (places b.rows)) (fun_ext (λ p. value_same (start_of target) n p))

  first_same : (target : Target) → TargetFits a.rows target → (m : ℕ) →
      first_range_in a (start_of target) m ≡ first_range_in b (start_of target) m
  first_same target fits zero = refl
  first_same target fits (suc m) = ap₂ option_or (first_same target fits m) (range_same target fits m)

  -- ---- the total

  in_range : (i : ℕ) → i < b.rows → i < a.rows + (b.rows - a.rows)
  in_range i l = omega (arith, pad.rows, l)

  input_part_same : (start : ℕ → Interval) (m : ℕ) (bounds : ℕ → ℕ) →
      input_part a start m bounds ≡ input_part b start m bounds
  input_part_same start m bounds =
      ap (λ (g : ℕ → ℕ). total PORTS (λ j. pos (g j * bounds j))) (fun_ext (λ j. input_gain_same start m j))

  rounding_same : (start : ℕ → Interval) (m : ℕ) → rounding a start m ≡ rounding b start m
  rounding_same start m =
      ap (λ x. ceil_div x 2)
      (total_ext a.rows (λ i. pos (row_gain a start m i * a.class i)) (λ i. pos (row_gain b start m i * b.class i))
      (λ i l. ap₂ (λ x y. pos (x * y)) (row_gain_same start m i) ((pad.same i l).class))
      ∙ sym (total_shorter a.rows b.rows (λ i. pos (row_gain b start m i * b.class i)) pad.rows
      (λ i l r. ap (λ x. pos (row_gain b start m i * x)) (pad.empty.class i l (in_range i r)) ∙ ap pos (omega arith))))

  widths_end : (target : Target) → TargetFits a.rows target → (m i : ℕ) → a.rows ≤ i →
      widths b (start_of target) m i ≡ pos 0
  widths_end target fits m i l =
      sym (widths_same (start_of target) m i)
      ∙ total_ext m (λ n. width (settled a (start_of target) n i)) (λ n. pos 0) (λ n h.
      ap width (settled_ends a b pad target fits n i l) ∙ refl)
      ∙ total_zero m

  width_part_same : (target : Target) → TargetFits a.rows target → (m : ℕ) (rows : ℕ → ℕ) →
      width_part a (start_of target) m rows ≡ width_part b (start_of target) m rows
  width_part_same target fits m rows =
      total_ext a.rows (λ i. widths a (start_of target) m i *ℤ pos (rows i)) (λ i.
      widths b (start_of target) m i *ℤ pos (rows i))
      (λ i l. ap (λ x. x *ℤ pos (rows i)) (widths_same (start_of target) m i))
      ∙ sym (total_shorter a.rows b.rows (λ i. widths b (start_of target) m i *ℤ pos (rows i)) pad.rows
      (λ i l r. ap (λ x. x *ℤ pos (rows i)) (widths_end target fits m i l) ∙ omega (arith, ints)))

  rest_end : (target : Target) → TargetFits a.rows target → (m i : ℕ) → a.rows ≤ i → rest b (start_of target) m i ≡ 0
  rest_end target fits m i l =
      sym (rest_same (start_of target) m i)
      ∙ no_magnitude (carried a (start_of target) m i) (carried_ends a b pad target fits m i l)

  rest_part_same : (target : Target) → TargetFits a.rows target → (m : ℕ) (rows : ℕ → ℕ) →
      rest_part a (start_of target) m rows ≡ rest_part b (start_of target) m rows
  rest_part_same target fits m rows =
      total_ext a.rows (λ i. pos (rest a (start_of target) m i * rows i)) (λ i.
      pos (rest b (start_of target) m i * rows i))
      (λ i l. ap (λ x. pos (x * rows i)) (rest_same (start_of target) m i))
      ∙ sym (total_shorter a.rows b.rows (λ i. pos (rest b (start_of target) m i * rows i)) pad.rows
      (λ i l r. ap (λ x. pos (x * rows i)) (rest_end target fits m i l) ∙ ap pos (omega arith)))

  total_same : (target : Target) → TargetFits a.rows target → (m : ℕ) (bounds rows : ℕ → ℕ) →
      target_total a (start_of target) m bounds rows ≡ target_total b (start_of target) m bounds rows
  total_same target fits m bounds rows =
      ap₂ (λ x y. x +ℤ y)
      (ap₂ (λ x y. x +ℤ y)
      (ap₂ (λ x y. x +ℤ y) (input_part_same (start_of target) m bounds) (rounding_same (start_of target) m))
      (width_part_same target fits m rows))
      (rest_part_same target fits m rows)

pub empty_rows_change_nothing : EmptyRowsChangeNothing
empty_rows_change_nothing a b target m pad fits = record {
  widths_are = λ i. widths_same a b pad (start_of target) m i;
  row_gains = λ i. row_gain_same a b pad (start_of target) m i;
  input_gains = λ j. input_gain_same a b pad (start_of target) m j;
  rests = λ i. rest_same a b pad (start_of target) m i;
  inputs_are = λ j. ap (λ (s : ℕ → Interval). s j) (inputs_same a b pad (start_of target) m);
  input_parts = λ bounds. input_part_same a b pad (start_of target) m bounds;
  roundings = rounding_same a b pad (start_of target) m;
  width_parts = λ rows. width_part_same a b pad target fits m rows;
  rest_parts = λ rows. rest_part_same a b pad target fits m rows;
  totals_are = λ bounds rows. total_same a b pad target fits m bounds rows;
  ranges = range_same a b pad target fits m;
  first_ranges = first_same a b pad target fits m;
}
