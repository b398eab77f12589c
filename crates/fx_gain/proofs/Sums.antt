-- Sums of natural numbers that grow.
use Rattle.std.proofs.Common.{◌≡◌, ℕ, zero, suc, ◌+◌, ◌≤◌, arith, inl, inr, subst}
use Rattle.std.proofs.Math.IntN.{ℤ, ◌+ℤ◌}
use Rattle.std.proofs.lemmas.Bool.{cases_lt}
use Rattle.std.proofs.lemmas.Int.{ints}
use Rattle.fx_math.specs.Sums.{sum_below}
use Rattle.fx_totals.specs.Kept.{IsUpTo}

pub sum_grows : (m n : ℕ) (f : ℕ → ℕ) → m ≤ n → sum_below m f ≤ sum_below n f
sum_grows m zero f l = subst (λ k. sum_below k f ≤ 0) (let e : 0 ≡ m = omega (arith, l) in e) (omega arith)
sum_grows m (suc n) f l = elim (cases_lt n m) [
  | inl above ↦ subst (λ k. sum_below k f ≤ sum_below (suc n) f) (let e : suc n ≡ m = omega (arith, l, above) in e)
      (omega arith)
  | inr below ↦ (let before = sum_grows m n f below in omega (arith, before))
]

-- one number more, at most one more of the sum
pub one_more_below : (n : ℕ) (f : ℕ → ℕ) (a p r : ℤ) → r ≡ a +ℤ p → IsUpTo (sum_below n f) a → IsUpTo (f n) p →
    IsUpTo (sum_below (n + 1) f) r
one_more_below n f a p r e h k =
    let s : n + 1 ≡ suc n = omega arith in
    subst (λ i. IsUpTo (sum_below i f) r) (let t : suc n ≡ n + 1 = omega arith in t)
    (omega (arith, ints, e, h.0, k.0), omega (arith, ints, e, h.1, k.1))
