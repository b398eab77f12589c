-- What a sweep begins with: in the first moment the target and the rows after it keep it.
use Rattle.std.proofs.Common.{◌≡◌, ◌≢◌, ◌⊎◌, ℕ, zero, suc, ◌<◌, ◌≤◌, arith, ap, ◌∙◌, inl, inr}
use Rattle.std.proofs.Math.IntN.{ℤ, pos}
use mathlib.Core.Path.{fun_ext}
use Rattle.std.proofs.lemmas.Int.{ints}
use Rattle.std.proofs.lemmas.Bool.{cases_lt}
use Rattle.std.proofs.lemmas.Bool.Decides.{nat_tests}
use Rattle.fx_nums.specs.Arithmetic.{width}
use Rattle.fx_nums.specs.Interval.{Interval, plus, point}
use Rattle.fx_net.specs.Net.{Net}
use Rattle.fx_sweep.specs.Target.{only, one, weights, start_of}
use Rattle.fx_sweep.specs.Weights.{hand_on, settle, settled}
use Rattle.fx_sweep.specs.declared.target.Target.TheVariants.{Row}
use Rattle.fx_sweep.proofs.Moments.{hand_on_before, hand_on_past, settle_past}
use Rattle.fx_sweep.proofs.Multiples.{ends_are, weight_zero}

pub only_not : (t j : ℕ) (w : ℤ) → j ≢ t → only t w j ≡ pos 0
only_not t j w h = grind (arith, nat_tests)

pub plus_zero : (a : Interval) → plus a (point (pos 0)) ≡ a
plus_zero a = ends_are (omega (arith, ints)) (omega (arith, ints))

hands_nothing_on : (net : Net) (n : ℕ) (at : ℕ → Interval) → (at n).lo ≡ pos 0 → hand_on net n at ≡ at
hands_nothing_on net n at e = fun_ext (λ j. by_lt j (cases_lt j n))
  where
    by_lt : (j : ℕ) → (j < n) ⊎ (n ≤ j) → hand_on net n at j ≡ at j
    by_lt j (inl l) = hand_on_before net n at j l ∙ ap (plus (at j)) (weight_zero (at n).lo (net.now n j) e)
        ∙ plus_zero (at j)
    by_lt j (inr l) = hand_on_past net n at j l

-- rows after t without a weight hand nothing on
settle_from : (net : Net) (t n : ℕ) (at : ℕ → Interval) → ((j : ℕ) → t < j → (at j).lo ≡ pos 0) → t < n →
    settle net n at ≡ settle net (suc t) at
settle_from net t zero at h l = absurd (omega arith)
settle_from net t (suc n) at h l = elim (cases_lt t n) [
  | inl k ↦ ap (settle net n) (hands_nothing_on net n at (h n k)) ∙ settle_from net t n at h k
  | inr k ↦ (let e : n ≡ t = omega arith in ap (λ x. settle net (suc x) at) e)
]

settle_keeps : (net : Net) (t n : ℕ) (at : ℕ → Interval) → ((j : ℕ) → t < j → (at j).lo ≡ pos 0) → t < n →
    (r : ℕ) → t ≤ r → settle net n at r ≡ at r
settle_keeps net t n at h l r k =
    ap (λ f. f r) (settle_from net t n at h l) ∙ settle_past net t (hand_on net t at) r k ∙ hand_on_past net t at r k

point_width : (a : Interval) (w : ℤ) → a ≡ point w → width a ≡ pos 0
point_width a w e = ap width e ∙ omega (arith, ints)

-- so nothing is cut off them there
pub starts_are_points : (net : Net) (t : ℕ) → t < net.rows → (i : ℕ) → t ≤ i →
    width (settled net (start_of (Row t)) 0 i) ≡ pos 0
starts_are_points net t l i k =
    point_width (settled net (start_of (Row t)) 0 i) (weights (Row t) i)
    (settle_keeps net t net.rows (start_of (Row t)) (λ j h. only_not t j one (omega arith)) l i k)
