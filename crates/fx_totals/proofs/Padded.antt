-- Empty rows behind a net, which no row of it reads: the intervals of a sweep are the same with and without them.
use Rattle.std.proofs.Common.{◌≡◌, ℕ, zero, suc, ◌<◌, ◌≤◌, arith, refl, ap, ap₂, sym, ◌∙◌, inl, inr, cond}
use Rattle.std.proofs.Math.IntN.{ℤ, pos, ◌-ℤ◌}
use Rattle.std.specs.Prelude.{nat_lt}
use mathlib.Core.Path.{fun_ext}
use Rattle.std.proofs.lemmas.Int.{ints}
use Rattle.std.proofs.lemmas.Bool.{cases_lt}
use Rattle.fx_math.specs.Sums.{total}
use Rattle.fx_math.proofs.Sums.{total_ext, total_zero}
use Rattle.fx_nums.specs.Arithmetic.{multiple}
use Rattle.fx_nums.specs.Fraction.{Fraction, zero_fraction}
use Rattle.fx_nums.specs.Interval.{Interval, plus, point}
use Rattle.fx_net.specs.Net.{Net}
use Rattle.fx_sweep.specs.Target.{TargetFits, one, power, start_of}
use Rattle.fx_sweep.specs.Weights.{hand_on, settle, taken, carry, to_input, carried, settled, inputs}
use Rattle.fx_sweep.specs.declared.target.Target.{Target}
use Rattle.fx_sweep.specs.declared.target.Target.TheVariants.{Row, Pair}
use Rattle.fx_sweep.proofs.Moments.{hand_on_before, hand_on_past, settle_past}
use Rattle.fx_sweep.proofs.Multiples.{ends_are, coefficient_zero}
use Rattle.fx_totals.specs.Padding.{IsPadded}
use Rattle.fx_totals.proofs.Starts.{only_not, plus_zero}

-- ---- sums with nothing at their end

pub total_shorter : (n m : ℕ) (f : ℕ → ℤ) → n ≤ m → ((i : ℕ) → n ≤ i → i < m → f i ≡ pos 0) → total m f ≡ total n f
total_shorter n zero f l none = ap (λ x. total x f) (let e : 0 ≡ n = omega arith in e)
total_shorter n (suc m) f l none = elim (cases_lt n (suc m)) [
  | inl k ↦ (let below : total m f ≡ total n f = total_shorter n m f (omega arith) (λ i a b. none i a (omega arith)) in
      let here : f m ≡ pos 0 = none m (omega arith) (omega arith) in
      omega (arith, ints, below, here))
  | inr k ↦ ap (λ x. total x f) (let e : suc m ≡ n = omega arith in e)
]

taken_longer : (n m : ℕ) (at : ℕ → Interval) (c d : ℕ → Fraction) → n ≤ m →
    ((i : ℕ) → i < n → c i ≡ d i) → ((i : ℕ) → n ≤ i → i < m → d i ≡ zero_fraction) → taken n at c ≡ taken m at d
taken_longer n m at c d l same none =
    ends_are
    (total_ext n (λ i. (multiple (at i).lo (c i)).lo) (λ i. (multiple (at i).lo (d i)).lo) (λ i h.
    ap (λ (x : Fraction). (multiple (at i).lo x).lo) (same i h))
    ∙ sym (total_shorter n m (λ i. (multiple (at i).lo (d i)).lo) l (λ i a b.
    ap (λ (x : Interval). x.lo) (coefficient_zero (at i).lo (d i) (none i a b)))))
    (total_ext n (λ i. (multiple (at i).lo (c i)).hi) (λ i. (multiple (at i).lo (d i)).hi) (λ i h.
    ap (λ (x : Fraction). (multiple (at i).lo x).hi) (same i h))
    ∙ sym (total_shorter n m (λ i. (multiple (at i).lo (d i)).hi) l (λ i a b.
    ap (λ (x : Interval). x.hi) (coefficient_zero (at i).lo (d i) (none i a b)))))

taken_nothing : (n : ℕ) (at : ℕ → Interval) (c : ℕ → Fraction) → ((i : ℕ) → i < n → c i ≡ zero_fraction) →
    taken n at c ≡ point (pos 0)
taken_nothing n at c none =
    ends_are
    (total_ext n (λ i. (multiple (at i).lo (c i)).lo) (λ i. pos 0) (λ i h.
    ap (λ (x : Interval). x.lo) (coefficient_zero (at i).lo (c i) (none i h))) ∙ total_zero n)
    (total_ext n (λ i. (multiple (at i).lo (c i)).hi) (λ i. pos 0) (λ i h.
    ap (λ (x : Interval). x.hi) (coefficient_zero (at i).lo (c i) (none i h))) ∙ total_zero n)

-- ---- the same intervals

module _ (a b : Net) (pad : IsPadded a b) where
  empty_hands_nothing_on : (n : ℕ) (at : ℕ → Interval) → a.rows ≤ n → n < b.rows → hand_on b n at ≡ at
  empty_hands_nothing_on n at l r = fun_ext (λ j. elim (cases_lt j n) [
    | inl h ↦ hand_on_before b n at j h
        ∙ ap (plus (at j)) (coefficient_zero (at n).lo (b.now n j)
        (pad.empty.now n j l (omega (arith, pad.rows)))) ∙ plus_zero (at j)
    | inr h ↦ hand_on_past b n at j h
  ])

  settle_skips : (n : ℕ) (at : ℕ → Interval) → a.rows ≤ n → n ≤ b.rows → settle b n at ≡ settle b a.rows at
  settle_skips zero at l r = ap (λ x. settle b x at) (let e : 0 ≡ a.rows = omega arith in e)
  settle_skips (suc n) at l r = elim (cases_lt n a.rows) [
    | inl h ↦ ap (λ x. settle b x at) (let e : suc n ≡ a.rows = omega arith in e)
    | inr h ↦ ap (settle b n) (empty_hands_nothing_on n at h (omega arith)) ∙ settle_skips n at h (omega arith)
  ]

  hand_on_same : (n : ℕ) (at : ℕ → Interval) → n < a.rows → hand_on a n at ≡ hand_on b n at
  unfolding hand_on
  hand_on_same n at l = fun_ext (λ j.
      ap (λ (x : Fraction). cond (nat_lt j n) (plus (at j) (multiple (at n).lo x)) (at j)) ((pad.same n l).now j))

  settle_same : (n : ℕ) (at : ℕ → Interval) → n ≤ a.rows → settle a n at ≡ settle b n at
  settle_same zero at l = refl
  settle_same (suc n) at l = ap (settle a n) (hand_on_same n at (omega arith))
      ∙ settle_same n (hand_on b n at) (omega arith)

  settles_same : (at : ℕ → Interval) → settle a a.rows at ≡ settle b b.rows at
  settles_same at = settle_same a.rows at (omega arith) ∙ sym (settle_skips b.rows at pad.rows (omega arith))

  carry_same : (at : ℕ → Interval) → carry a at ≡ carry b at
  unfolding carry
  carry_same at =
      fun_ext (λ j. taken_longer a.rows b.rows at (λ i. a.old i j) (λ i. b.old i j) pad.rows
      (λ i l. (pad.same i l).old j) (λ i l r. pad.empty.old i j l (omega (arith, pad.rows))))

  to_input_same : (at : ℕ → Interval) → to_input a at ≡ to_input b at
  unfolding to_input
  to_input_same at =
      fun_ext (λ j. taken_longer a.rows b.rows at (λ i. a.input i j) (λ i. b.input i j) pad.rows
      (λ i l. (pad.same i l).input j) (λ i l r. pad.empty.input i j l (omega (arith, pad.rows))))

  pub carried_same : (start : ℕ → Interval) (n : ℕ) → carried a start n ≡ carried b start n
  carried_same start zero = refl
  carried_same start (suc n) =
      ap (λ at. carry a (settle a a.rows at)) (carried_same start n)
      ∙ ap (carry a) (settles_same (carried b start n)) ∙ carry_same (settle b b.rows (carried b start n))

  pub settled_same : (start : ℕ → Interval) (n : ℕ) → settled a start n ≡ settled b start n
  settled_same start n = ap (settle a a.rows) (carried_same start n) ∙ settles_same (carried b start n)

  pub inputs_same : (start : ℕ → Interval) (n : ℕ) → inputs a start n ≡ inputs b start n
  inputs_same start n = ap (to_input a) (settled_same start n) ∙ to_input_same (settled b start n)

  -- ---- nothing behind the net

  start_ends : (target : Target) → TargetFits a.rows target → (i : ℕ) → a.rows ≤ i → start_of target i ≡ point (pos 0)
  start_ends (Row t) fits i l = ap point (only_not t i one (let h : t < a.rows = fits in omega (arith, h)))
  start_ends (Pair code original shift) fits i l =
      ap point (ap₂ (λ x y. x -ℤ y)
      (only_not code i one (let h : code < a.rows = fits.0 in omega (arith, h)))
      (only_not original i (power shift) (let h : original < a.rows = fits.1 in omega (arith, h))))

  carry_ends : (at : ℕ → Interval) (i : ℕ) → a.rows ≤ i → carry a at i ≡ point (pos 0)
  unfolding carry
  carry_ends at i l = taken_nothing a.rows at (λ r. a.old r i) (λ r h. pad.unread r i h l)

  pub carried_ends : (target : Target) → TargetFits a.rows target → (n i : ℕ) → a.rows ≤ i →
      carried a (start_of target) n i ≡ point (pos 0)
  carried_ends target fits zero i l = start_ends target fits i l
  carried_ends target fits (suc n) i l = carry_ends (settle a a.rows (carried a (start_of target) n)) i l

  pub settled_ends : (target : Target) → TargetFits a.rows target → (n i : ℕ) → a.rows ≤ i →
      settled a (start_of target) n i ≡ point (pos 0)
  settled_ends target fits n i l = settle_past a a.rows (carried a (start_of target) n) i l
      ∙ carried_ends target fits n i l
