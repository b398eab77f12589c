-- Division by multiplication with a reciprocal, and the tables of powers of ten and of their reciprocals.
use Rattle.std.proofs.Common.{◌≡◌, ℕ, zero, suc, ◌+◌, ◌-◌, ◌*◌, ◌/◌, ◌%◌, ◌^◌, ◌<◌, ◌≤◌, List, [], ◌∷◌, length}
use Rattle.std.proofs.Common.{get_or, arith, refl, sym, ◌∙◌, ap, subst, Bool, true, false, ◌&&◌, nat_le}
use Rattle.std.proofs.lemmas.Nat.{div-add-mod'}
use Rattle.std.proofs.lemmas.Bool.{leb-true}
use Rattle.std.proofs.Math.Nat.{mul_assoc, mul_comm, mul-one, one-mul, pow-suc, pow-le-pow_right, one-le-pow}
use Rattle.std.proofs.Math.Nat.{mul-le-mul_left, mul-le-mul_right, mul-lt-mul_of_pos_right}
use Rattle.fx_math.proofs.Rounding as rounding

-- a quotient and its rest
pub quotient_is : (q t r n : ℕ) → q * t + r ≡ n → r < t → n / t ≡ q
quotient_is q t r n e h = rounding.quotient_is q t r n e h

pub rest_is : (q t r n : ℕ) → q * t + r ≡ n → r < t → n % t ≡ r
rest_is q t r n e h = rounding.rest_is q t r n e h

-- ---- the product with a reciprocal

-- from the halves of two numbers
high_parts : (a b c d : ℕ) → b < 2 ^ 64 → d < 2 ^ 64 → a * c * 4 + (a * d + b * c + b * d / 2 ^ 64) / 2 ^ 62
    ≡ (a * 2 ^ 64 + b) * (c * 2 ^ 64 + d) / 2 ^ 126
high_parts a b c d h k = omega arith

pub high_split : (n m : ℕ) → n / 2 ^ 64 * (m / 2 ^ 64) * 4
    + (n / 2 ^ 64 * (m % 2 ^ 64) + n % 2 ^ 64 * (m / 2 ^ 64) + n % 2 ^ 64 * (m % 2 ^ 64) / 2 ^ 64) / 2 ^ 62
    ≡ n * m / 2 ^ 126
high_split n m =
    high_parts (n / 2 ^ 64) (n % 2 ^ 64) (m / 2 ^ 64) (m % 2 ^ 64) (omega arith) (omega arith)
    ∙ rw (div-add-mod' n (2 ^ 64), div-add-mod' m (2 ^ 64)) refl

-- it is the quotient, or one less
reciprocal_quotient : (n m t : ℕ) → n < 2 ^ 126 → 0 < t → m * t ≤ 2 ^ 126 → 2 ^ 126 ≤ (m + 1) * t →
    (n * m / 2 ^ 126 * t ≤ n) × (n < (n * m / 2 ^ 126 + 2) * t)
reciprocal_quotient n m t n_in positive low high =
    let q : ℕ = n * m / 2 ^ 126 in
    let from : q * 2 ^ 126 ≤ n * m = omega arith in
    let upto : n * m < (q + 1) * 2 ^ 126 = omega arith in
    let below : q * t * 2 ^ 126 ≤ n * 2 ^ 126 = omega (arith, mul-le-mul_right t from, mul-le-mul_left n low) in
    let above : n * 2 ^ 126 < (q + 2) * t * 2 ^ 126 =
    omega (
      arith,
      mul-lt-mul_of_pos_right upto positive,
      mul-le-mul_left n high,
      mul-lt-mul_of_pos_right n_in positive,
    ) in
    (omega (arith, below), omega (arith, above))

-- what is left of n at the guess, and what is left after one more
pub guess_below : (n m t g : ℕ) → n < 2 ^ 126 → 0 < t → m * t ≤ 2 ^ 126 → 2 ^ 126 ≤ (m + 1) * t →
    g ≡ n * m / 2 ^ 126 → (g * t ≤ n) × (n < g * t + t + t)
guess_below n m t g n_in positive low high e =
    let both = reciprocal_quotient n m t n_in positive low high in
    rw e (both.0, omega (arith, both.1))

-- ---- the table of reciprocals

-- m is 2 ^ 126 / t, rounded down
abbrev pub is_reciprocal : ℕ → ℕ → Bool
is_reciprocal t m = nat_le (m * t) (2 ^ 126) && nat_le (2 ^ 126) ((m + 1) * t)

-- the reciprocals of t, 10 * t and so on
abbrev pub are_reciprocals : ℕ → List ℕ → Bool
are_reciprocals t [] = true
are_reciprocals t (m ∷ ms) = is_reciprocal t m && are_reciprocals (t * 10) ms

left_true : (a b : Bool) → (a && b) ≡ true → a ≡ true
left_true true b e = refl
left_true false b e = e

right_true : (a b : Bool) → (a && b) ≡ true → b ≡ true
right_true true b e = e
right_true false b e = cc

pub reciprocal_at : (t : ℕ) (ms : List ℕ) (k : ℕ) → are_reciprocals t ms ≡ true → k < length ms →
    is_reciprocal (t * 10 ^ k) (get_or ms k 0) ≡ true
reciprocal_at t [] k e h = absurd (omega arith)
reciprocal_at t (m ∷ ms) zero e h = rw (mul-one t) (left_true (is_reciprocal t m) (are_reciprocals (t * 10) ms) e)
reciprocal_at t (m ∷ ms) (suc k) e h =
    let rest : is_reciprocal (t * 10 * 10 ^ k) (get_or ms k 0) ≡ true =
    reciprocal_at (t * 10) ms k (right_true (is_reciprocal t m) (are_reciprocals (t * 10) ms) e)
    (omega arith) in
    let same : t * 10 * 10 ^ k ≡ t * 10 ^ suc k = mul_assoc t 10 (10 ^ k)
    ∙ ap (λ y. t * y) (mul_comm 10 (10 ^ k) ∙ sym (pow-suc 10 k)) in
    subst (λ y. is_reciprocal y (get_or ms k 0) ≡ true) same rest

pub record IsReciprocal (t m : ℕ) : Type 0 where
  pub low : m * t ≤ 2 ^ 126
  pub high : 2 ^ 126 ≤ (m + 1) * t

pub reciprocal_from : (t m : ℕ) → is_reciprocal t m ≡ true → IsReciprocal t m
reciprocal_from t m e = record {
  low = leb-true (m * t) (2 ^ 126) (left_true (nat_le (m * t) (2 ^ 126)) (nat_le (2 ^ 126) ((m + 1) * t)) e);
  high = leb-true (2 ^ 126) ((m + 1) * t) (right_true (nat_le (m * t) (2 ^ 126)) (nat_le (2 ^ 126) ((m + 1) * t)) e);
}

pub bound_from : (d m : ℕ) → IsReciprocal (10 ^ d) m → m ≤ 2 ^ 126
bound_from d m r = omega (arith, r.low, mul-le-mul_left m (one-le-pow d 10 (omega arith)))

-- ---- the table of powers of ten

-- n numbers from x on, each ten times the one before
abbrev pub tens_from : ℕ → ℕ → List ℕ
tens_from zero x = []
tens_from (suc n) x = x ∷ tens_from n (x * 10)

tens_at : (n x k : ℕ) → k < n → get_or (tens_from n x) k 0 ≡ x * 10 ^ k
tens_at zero x k h = absurd (omega arith)
tens_at (suc n) x zero h = sym (mul-one x)
tens_at (suc n) x (suc k) h =
    let rest : get_or (tens_from n (x * 10)) k 0 ≡ x * 10 * 10 ^ k = tens_at n (x * 10) k (omega arith) in
    rest ∙ mul_assoc x 10 (10 ^ k) ∙ ap (λ y. x * y) (mul_comm 10 (10 ^ k) ∙ sym (pow-suc 10 k))

pub ten_at : (d : ℕ) → d < 29 → get_or (tens_from 29 1) d 0 ≡ 10 ^ d
ten_at d h = tens_at 29 1 d h ∙ one-mul (10 ^ d)

pub ten_bounds : (d : ℕ) → d ≤ 28 → (10 ^ d ≤ 10 ^ 28) × (0 < 10 ^ d)
ten_bounds d h = (pow-le-pow_right {n = 10} (omega arith) h, one-le-pow d 10 (omega arith))
