-- From a moment that stands on each moment adds what it adds.
use Rattle.std.proofs.Common.{◌≡◌, ℕ, zero, suc, ◌+◌, ◌*◌, ◌^◌, ◌<◌, ◌≤◌, arith, refl, ap, sym, ◌∙◌, subst, Bool, true}
use Rattle.std.proofs.Common.{false, cond, nat_le, List, [], ◌∷◌, Option, Some, None}
use Rattle.std.proofs.Math.IntN.{ℤ, pos, ◌+ℤ◌, ◌*ℤ◌}
use Rattle.std.proofs.lemmas.Bool.{lt-leb, leb-false}
use Rattle.std.proofs.lemmas.Int.{ints}
use Rattle.std.specs.Option.{option_or}
use Rattle.std.specs.Prelude.{unsigned_abs}
use Rattle.fx_math.specs.Sums.{sum_below, total}
use Rattle.fx_nums.specs.Arithmetic.{width}
use Rattle.fx_nums.specs.Interval.{Interval, magnitude}
use Rattle.fx_nums.specs.declared.limits.TheConstants.{OPERAND_BITS}
use Rattle.fx_net.specs.Net.{Net}
use Rattle.fx_sweep.specs.Gains.{input_gain, row_gain}
use Rattle.fx_sweep.specs.Range.{first_range, first_range_in, places, range_at, value_at}
use Rattle.fx_sweep.specs.Standing.{GainsAreBelow, IsRepeated, Stands}
use Rattle.fx_sweep.specs.Weights.{carried, carry, inputs, settle, settled, to_input}
use Rattle.fx_sweep.specs.declared.target.Place.{Place}
use Rattle.fx_sweep.specs.declared.target.Place.TheVariants.{Weight, Gain, Input, Rest}
use Rattle.fx_sweep.proofs.Ranges.{first_none}

-- ---- sums of equal numbers

total_repeats : (n k : ℕ) (f : ℕ → ℤ) → ((j : ℕ) → f (n + j) ≡ f n) → total (n + k) f ≡ total n f +ℤ pos k *ℤ f n
total_repeats n zero f same = (let e : n + 0 ≡ n = omega arith in rw e (omega (arith, ints)))
total_repeats n (suc k) f same =
    let e : n + suc k ≡ suc (n + k) = omega arith in
    let s : pos (suc k) *ℤ f n ≡ pos k *ℤ f n +ℤ f n = grind (arith, ints) in
    rw e (omega (arith, ints, total_repeats n k f same, same k, s))

sum_repeats : (n k : ℕ) (f : ℕ → ℕ) → ((j : ℕ) → f (n + j) ≡ f n) → sum_below (n + k) f ≡ sum_below n f + k * f n
sum_repeats n zero f same = (let e : n + 0 ≡ n = omega arith in rw e (omega arith))
sum_repeats n (suc k) f same =
    let e : n + suc k ≡ suc (n + k) = omega arith in
    let s : suc k * f n ≡ k * f n + f n = grind arith in
    rw e (omega (arith, sum_repeats n k f same, same k, s))

-- ---- what is carried, and what follows from it

module _ (net : Net) (start : ℕ → Interval) (n : ℕ) (stands : Stands net start n) where
  carried_stays : (k : ℕ) → carried net start (n + k) ≡ carried net start n
  carried_stays zero = (let e : n + 0 ≡ n = omega arith in ap (carried net start) e)
  carried_stays (suc k) =
      let e : n + suc k ≡ suc (n + k) = omega arith in
      ap (carried net start) e ∙ ap (λ (at : ℕ → Interval). carry net (settle net net.rows at)) (carried_stays k)
      ∙ stands

  settled_stays : (k : ℕ) → settled net start (n + k) ≡ settled net start n
  settled_stays k = ap (settle net net.rows) (carried_stays k)

  inputs_stays : (k : ℕ) → inputs net start (n + k) ≡ inputs net start n
  inputs_stays k = ap (to_input net) (settled_stays k)

  pub is_repeated : (k : ℕ) → IsRepeated net start n k
  is_repeated k = record {
    carried_stay = carried_stays k;
    inputs_stay = inputs_stays k;
    widths_rise = λ i. total_repeats n k (λ m. width (settled net start m i))
        (λ j. ap (λ (at : ℕ → Interval). width (at i)) (settled_stays j));
    row_gains_rise = λ i. sum_repeats n k (λ m. unsigned_abs (settled net start m i).lo)
        (λ j. ap (λ (at : ℕ → Interval). unsigned_abs (at i).lo) (settled_stays j));
    input_gains_rise = λ i. sum_repeats n k (λ m. magnitude (inputs net start m i))
        (λ j. ap (λ (at : ℕ → Interval). magnitude (at i)) (inputs_stays j));
  }

-- ---- ranges

-- where none of some places has reached the limit, the first has not
below_first : (value : Place → ℕ) (p : Place) (ps : List Place) → first_range value (p ∷ ps) ≡ None →
    (value p < 2 ^ OPERAND_BITS) × (first_range value ps ≡ None)
below_first value p ps = by_test (nat_le (2 ^ OPERAND_BITS) (value p)) refl
  where
    by_test : (b : Bool) → nat_le (2 ^ OPERAND_BITS) (value p) ≡ b →
        cond b (Some (record { place = p; value = pos (value p) })) (first_range value ps) ≡ None →
        (value p < 2 ^ OPERAND_BITS) × (first_range value ps ≡ None)
    by_test true e h = (let no : ⊥ = cc in elim no [ ])
    by_test false e h = (leb-false (2 ^ OPERAND_BITS) (value p) e, h)

-- where no other number reaches the limit, none is the first to do so
none_kept : (value other : Place → ℕ) (ps : List Place) →
    ((p : Place) → value p < 2 ^ OPERAND_BITS → other p < 2 ^ OPERAND_BITS) → first_range value ps ≡ None →
    first_range other ps ≡ None
none_kept value other [] keep none = refl
none_kept value other (p ∷ ps) keep none =
    let h = below_first value p ps none in
    rw (lt-leb (2 ^ OPERAND_BITS) (other p) (keep p h.0)) (none_kept value other ps keep h.1)

second_none : {A : Type 0} (a b : Option A) → option_or a b ≡ None → b ≡ None
second_none None b h = h
second_none (Some x) b h = (let no : ⊥ = cc in elim no [ ])

module _ (net : Net) (start : ℕ → Interval) where
  below_before : (m : ℕ) → GainsAreBelow net start (suc m) → GainsAreBelow net start m
  below_before m below = record {
    rows = λ i. (let l : row_gain net start m i ≤ row_gain net start (suc m) i = omega arith in
        omega (arith, l, below.rows i));
    ports = λ j. (let l : input_gain net start m j ≤ input_gain net start (suc m) j = omega arith in
        omega (arith, l, below.ports j));
  }

module _ (net : Net) (start : ℕ → Interval) (n : ℕ) (stands : Stands net start n) where
  values_below : (k : ℕ) → GainsAreBelow net start (suc (n + k)) → (p : Place) →
      value_at net start n p < 2 ^ OPERAND_BITS → value_at net start (n + k) p < 2 ^ OPERAND_BITS
  values_below k below (Weight i) l =
      subst (λ (at : ℕ → Interval). magnitude (at i) < 2 ^ OPERAND_BITS) (sym (settled_stays net start n stands k)) l
  values_below k below (Gain i) l = below.rows i
  values_below k below (Input j) l = below.ports j
  values_below k below (Rest i) l =
      subst (λ (at : ℕ → Interval). magnitude (at i) < 2 ^ OPERAND_BITS)
      (sym (ap (λ (at : ℕ → Interval). carry net (settle net net.rows at)) (carried_stays net start n stands k))) l

  pub no_range_met : (k : ℕ) → first_range_in net start (suc n) ≡ None → GainsAreBelow net start (n + k) →
      first_range_in net start (n + k) ≡ None
  no_range_met zero none below =
      let e : n + 0 ≡ n = omega arith in
      rw e (first_none (first_range_in net start n) (range_at net start n) none)
  no_range_met (suc k) none below =
      let e : n + suc k ≡ suc (n + k) = omega arith in
      let next = subst (GainsAreBelow net start) e below in
      let before = no_range_met k none (below_before net start (n + k) next) in
      let here = none_kept (value_at net start n) (value_at net start (n + k)) (places net.rows) (values_below k next)
      (second_none (first_range_in net start n) (range_at net start n) none) in
      rw (e, before) here
