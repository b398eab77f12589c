-- What the words with the signs of the weights add for certain.
use Rattle.std.proofs.Common.{◌≡◌, ℕ, zero, suc, ◌+◌, ◌-◌, ◌<◌, ◌≤◌, length, arith, refl, ap, sym}
use Rattle.std.proofs.Common.{◌∙◌, inl, inr, cond, eqb, true, false}
use Rattle.std.proofs.Math.IntN.{ℤ, pos, neg_ℤ, ◌*ℤ◌}
use Rattle.std.specs.Int.Signed.{◌≤ℤ◌}
use Rattle.std.specs.Prelude.{int_lt}
use Rattle.std.proofs.lemmas.Int.{ints, clamps}
use Rattle.std.proofs.lemmas.Bool.{cases_lt, eq-eqb, ne_eqb}
use Rattle.fx_math.specs.Sums.{total}
use Rattle.fx_math.specs.Unroll.{lagged}
use Rattle.fx_math.proofs.Ring.{mul_comm, mul-neg, mul-le}
use Rattle.fx_math.proofs.Sums.{total_ext, total_mul}
use Rattle.fx_eqs.specs.declared.limits.TheConstants.{PORTS}
use Rattle.fx_files.specs.Filter.{Filter}
use Rattle.fx_code.specs.Inputs.{word_at}
use Rattle.fx_nums.specs.Interval.{Interval}
use Rattle.fx_net.specs.Net.{Net}
use Rattle.fx_sweep.specs.Weights.{inputs}
use Rattle.fx_sweep.proofs.Ordered.{inputs_ordered}
use Rattle.fx_totals.specs.Bounds.{least_product, least_sum}
use Rattle.fx_block.specs.Formats.{bound_of}
use Rattle.fx_gain.specs.Enclosing.{least_magnitude, output_start, weight, worst_word, worst_words}
use Rattle.fx_gain.specs.Peak.{alone}
use Rattle.fx_gain.proofs.Alone.{single_at, word_alone}

-- ---- one word

-- the least product of a weight with the word of its sign
worst_product : (bound : ℕ) (v : Interval) → v.lo ≤ℤ v.hi →
    least_product v (worst_word (pos bound) v) ≡ pos bound *ℤ least_magnitude v
worst_product bound v order = elim (int_lt (pos 0) v.lo) as (λ a.
    least_product v (cond a (pos bound) (cond (int_lt v.hi (pos 0)) (neg_ℤ (pos bound)) (pos 0)))
    ≡ pos bound *ℤ cond a v.lo (cond (int_lt v.hi (pos 0)) (neg_ℤ v.hi) (pos 0))) [
      | true ↦ (let scaled = mul-le bound v.lo v.hi order in
          omega (arith, ints, clamps, scaled, mul_comm v.lo (pos bound), mul_comm v.hi (pos bound)))
      | false ↦ elim (int_lt v.hi (pos 0)) as (λ b.
          least_product v (cond b (neg_ℤ (pos bound)) (pos 0))
          ≡ pos bound *ℤ cond b (neg_ℤ v.hi) (pos 0)) [
            | true ↦ (let scaled = mul-le bound v.lo v.hi order in
                omega (
                  arith,
                  ints,
                  clamps,
                  scaled,
                  mul-neg v.lo (pos bound),
                  mul-neg v.hi (pos bound),
                  mul-neg (pos bound) v.hi,
                  mul_comm v.lo (pos bound),
                  mul_comm v.hi (pos bound),
                ))
            | false ↦ omega (arith, ints, clamps)
          ]
    ]

none_product : (v : Interval) → least_product v (pos 0) ≡ pos 0
none_product v = omega (arith, ints, clamps)

-- ---- sums with one part, and earlier moments

pub total_none : (n : ℕ) (f : ℕ → ℤ) → ((i : ℕ) → i < n → f i ≡ pos 0) → total n f ≡ pos 0
total_none zero f none = refl
total_none (suc n) f none =
    let before : total n f ≡ pos 0 = total_none n f (λ i l. none i (omega (arith, l))) in
    let here : f n ≡ pos 0 = none n (omega arith) in
    omega (arith, ints, before, here)

pub total_only : (n j : ℕ) (f : ℕ → ℤ) → j < n → ((i : ℕ) → i < n → (i ≡ j → ⊥) → f i ≡ pos 0) → total n f ≡ f j
total_only zero j f l none = absurd (omega (arith, l))
total_only (suc n) j f l none = elim (cases_lt j n) [
  | inl below ↦ (let before : total n f ≡ f j = total_only n j f below (λ i h ne. none i (omega (arith, h)) ne) in
      let here : f n ≡ pos 0 = none n (omega arith) (λ e. omega (arith, e, below)) in
      omega (arith, ints, before, here))
  | inr from ↦ (let same : n ≡ j = omega (arith, l, from) in
      let before : total n f ≡ pos 0 = total_none n f (λ i h. none i (omega (arith, h))
      (λ e. omega (arith, e, h, same))) in
      let here : f n ≡ f j = ap f same in
      omega (arith, ints, before, here))
]

lagged_at : (f : ℕ → ℕ → ℤ) (k n i : ℕ) → n ≤ k → lagged f k n i ≡ f (k - n) i
lagged_at f k zero i l = ap (λ h. f h i) (let e : k ≡ k - 0 = omega arith in e)
lagged_at f zero (suc n) i l = absurd (omega (arith, l))
lagged_at f (suc k) (suc n) i l = lagged_at f k n i (omega (arith, l))
    ∙ ap (λ h. f h i) (let e : k - n ≡ suc k - suc n = omega arith in e)

-- ---- all words

module _ (net : Net) (filter : Filter) (m o j : ℕ) (inside : j < length filter.inputs) (port : j < PORTS) where
  -- n moments before the last
  word_then : (n i : ℕ) → n < m →
      lagged (word_at (alone filter j (worst_words net filter m o j))) (m - 1) n i
      ≡ cond (eqb i j) (worst_word (pos (bound_of filter j)) (weight net filter o j n)) (pos 0)
  word_then n i l =
      lagged_at (word_at (alone filter j (worst_words net filter m o j))) (m - 1) n i (omega (arith, l))
      ∙ word_alone filter j (worst_words net filter m o j) inside (m - 1 - n) i
      ∙ ap (λ w. cond (eqb i j) w (pos 0))
      (single_at m (m - 1 - n) (λ k.
      worst_word (pos (bound_of filter j)) (weight net filter o j (m - (k + 1)))) (pos 0) (omega (arith, l))
      ∙ (let e : m - (m - 1 - n + 1) ≡ n = omega (arith, l) in
      ap (λ k. worst_word (pos (bound_of filter j)) (weight net filter o j k)) e))

  one_moment : (n : ℕ) → n < m →
      total PORTS (λ i. least_product (inputs net (output_start filter o) n i)
      (lagged (word_at (alone filter j (worst_words net filter m o j))) (m - 1) n i))
      ≡ pos (bound_of filter j) *ℤ least_magnitude (weight net filter o j n)
  one_moment n l =
      total_only PORTS j (λ i. least_product (inputs net (output_start filter o) n i)
      (lagged (word_at (alone filter j (worst_words net filter m o j))) (m - 1) n i)) port
      (λ i h other. ap (least_product (inputs net (output_start filter o) n i))
      (word_then n i l ∙ rw (ne_eqb i j other) refl)
      ∙ none_product (inputs net (output_start filter o) n i))
      ∙ ap (least_product (weight net filter o j n)) (word_then n j l ∙ rw (eq-eqb j j refl) refl)
      ∙ worst_product (bound_of filter j) (weight net filter o j n)
      (inputs_ordered net (output_start filter o) n j)

  pub worst_sum : least_sum net (output_start filter o) m (m - 1)
      (word_at (alone filter j (worst_words net filter m o j)))
      ≡ pos (bound_of filter j) *ℤ total m (λ n. least_magnitude (weight net filter o j n))
  worst_sum =
      total_ext m (λ n. total PORTS (λ i. least_product (inputs net (output_start filter o) n i)
      (lagged (word_at (alone filter j (worst_words net filter m o j))) (m - 1) n i)))
      (λ n. pos (bound_of filter j) *ℤ least_magnitude (weight net filter o j n)) one_moment
      ∙ sym (total_mul (pos (bound_of filter j)) m (λ n. least_magnitude (weight net filter o j n)))
