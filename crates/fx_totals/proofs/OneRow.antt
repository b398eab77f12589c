-- The value of a target by its rows: the sum over all rows has one that counts, or two.
use Rattle.std.proofs.Common.{◌≡◌, ℕ, zero, suc, ◌<◌, ◌≤◌, arith, refl, ap, ap₂, ◌∙◌, inl, inr}
use Rattle.std.proofs.Math.IntN.{ℤ, pos, ◌-ℤ◌, ◌*ℤ◌, neg_ℤ}
use Rattle.std.proofs.lemmas.Int.{ints}
use Rattle.std.proofs.lemmas.Bool.{cases_lt}
use Rattle.std.proofs.lemmas.Bool.Decides.{nat_tests}
use Rattle.fx_math.specs.Sums.{total}
use Rattle.fx_math.proofs.Ring.{add-mul, neg-mul}
use Rattle.fx_math.proofs.Sums.{total_ext, total_zero}
use Rattle.fx_net.specs.Blocks.{raised}
use Rattle.fx_sweep.specs.Target.{only, one, power}
use Rattle.fx_totals.specs.Laws.{RowTargets, PairTargets}
use Rattle.fx_totals.proofs.Starts.{only_not}

only_here : (t : ℕ) (w : ℤ) → only t w t ≡ w
only_here t w = grind (arith, nat_tests)

nothing_times : (y z : ℤ) → y ≡ pos 0 → y *ℤ z ≡ pos 0
nothing_times y z e = ap (λ x. x *ℤ z) e ∙ omega (arith, ints)

only_past : (n t : ℕ) (w : ℤ) (x : ℕ → ℤ) → n ≤ t → total n (λ j. only t w j *ℤ x j) ≡ pos 0
only_past n t w x h =
    total_ext n (λ j. only t w j *ℤ x j) (λ j. pos 0) (λ j l.
    nothing_times (only t w j) (x j) (only_not t j w (omega arith)))
    ∙ total_zero n

only_at : (n t : ℕ) (w : ℤ) (x : ℕ → ℤ) → t < n → total n (λ j. only t w j *ℤ x j) ≡ w *ℤ x t
only_at zero t w x h = absurd (omega arith)
only_at (suc n) t w x h = elim (cases_lt t n) [
  | inl l ↦ (let e : only t w n *ℤ x n ≡ pos 0 = nothing_times (only t w n) (x n) (only_not t n w (omega arith)) in
      omega (arith, ints, only_at n t w x l, e))
  | inr l ↦ (let e : n ≡ t = omega arith in
      let here : only t w n *ℤ x n ≡ w *ℤ x t = ap (λ k. only t w k *ℤ x k) e ∙ ap (λ y. y *ℤ x t) (only_here t w) in
      omega (arith, ints, only_past n t w x (omega arith), here))
]

total_differs : (n : ℕ) (a b x : ℕ → ℤ) → total n (λ j. (a j -ℤ b j) *ℤ x j)
    ≡ total n (λ j. a j *ℤ x j) -ℤ total n (λ j. b j *ℤ x j)
total_differs zero a b x = refl
total_differs (suc n) a b x =
    omega (arith, ints, total_differs n a b x, add-mul (a n) (neg_ℤ (b n)) (x n), neg-mul (b n) (x n))

pub row_targets : RowTargets
row_targets net q z k t l = only_at net.rows t one (raised net q z k 0) l

pub pair_targets : PairTargets
pair_targets net q z k code original shift l h =
    total_differs net.rows (only code one) (only original (power shift)) (raised net q z k 0)
    ∙ ap₂ (λ x y. x -ℤ y) (only_at net.rows code one (raised net q z k 0) l)
    (only_at net.rows original (power shift) (raised net q z k 0) h)
