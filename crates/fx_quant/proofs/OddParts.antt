-- Numbers as odd parts times powers of two.
use Rattle.std.proofs.Common.{◌≡◌, ℕ, zero, suc, ◌*◌, ◌/◌, ◌%◌, ◌^◌, ◌<◌, refl, arith, sym, ap, ap₂, ◌∙◌, ◌≢◌}
use Rattle.std.proofs.Common.{unsigned_abs, subst}
use Rattle.std.proofs.Math.IntN.{ℤ, pos, negsuc, neg_ℤ, ◌+ℤ◌, ◌-ℤ◌, ◌*ℤ◌}
use Rattle.std.proofs.Math.Nat.{pow-suc, div-div-eq-div-mul}
use Rattle.std.specs.Int.Signed.{◌≤ℤ◌}
use Rattle.std.proofs.lemmas.Int.{ints}
use Rattle.std.proofs.lemmas.Nat.{pow_pos}
use Rattle.std.proofs.lemmas.Nat.Bits.{bit_at-trailing_zeros}
use Rattle.std.specs.Int.{w128, trailing_zeros, bit_at}
use Rattle.fx_math.specs.Division.{floor_div}
use Rattle.fx_math.proofs.Division.{floor_below, floor_above, cancel_lt}
use Rattle.fx_math.proofs.Ring.{mul_comm, add-mul, neg-mul, mul-le-back}
use Rattle.fx_quant.specs.Rounding.{zeros, odd_part}
use borrow.Author.Differences.{abs_is}

-- halving once more
half_more : (n k : ℕ) → n / 2 ^ suc k ≡ n / 2 ^ k / 2
half_more n k = ap (λ p. n / p) (pow-suc 2 k) ∙ sym (div-div-eq-div-mul n (2 ^ k) 2)

-- zeros at the low end are a factor
low_zeros : (n k : ℕ) → ((i : ℕ) → i < k → bit_at n i ≡ 0) → n / 2 ^ k * 2 ^ k ≡ n
low_zeros n zero h = omega arith
low_zeros n (suc k) h =
    let before : n / 2 ^ k * 2 ^ k ≡ n = low_zeros n k (λ i l. h i (omega (arith, l))) in
    let even : n / 2 ^ k % 2 ≡ 0 = h k (omega arith) in
    let whole : n / 2 ^ k / 2 * 2 ≡ n / 2 ^ k = omega (arith, even) in
    ap₂ (λ x y. x * y) (half_more n k) (pow-suc 2 k)
    ∙ by_two (n / 2 ^ k / 2) (2 ^ k) ∙ ap (λ x. x * 2 ^ k) whole ∙ before
  where
    by_two : (x y : ℕ) → x * (y * 2) ≡ x * 2 * y
    by_two x y = omega arith

-- a multiple is its factor, rounded down or not
exact_floor : (c q : ℤ) (n : ℕ) → 0 < n → c ≡ q *ℤ pos n → floor_div c n ≡ q
exact_floor c q n some e =
    let f : ℤ = floor_div c n in
    let low = floor_below c n some in
    let high = floor_above c n some in
    let below : f ≤ℤ q =
    mul-le-back n f q some (omega (arith, ints, low, e, mul_comm f (pos n), mul_comm q (pos n))) in
    let k : ℕ = unsigned_abs (q -ℤ f) in
    let parts : q ≡ f +ℤ pos k = omega (arith, ints, below, abs_is) in
    let sum : q *ℤ pos n ≡ f *ℤ pos n +ℤ pos k *ℤ pos n =
    ap (λ x. x *ℤ pos n) parts ∙ add-mul f (pos k) (pos n) in
    let few : k * n < 1 * n = omega (arith, ints, high, e, sum) in
    let none : k < 1 = cancel_lt k 1 n few in
    omega (arith, ints, parts, none)

-- ---- odd parts

pub record Parts (c odd : ℤ) (k : ℕ) : Type 0 where
  pub whole : odd *ℤ pos (2 ^ k) ≡ c
  pub is_odd : unsigned_abs odd % 2 ≡ 1

parts_from : (c q : ℤ) (k : ℕ) → c ≡ q *ℤ pos (2 ^ k) → unsigned_abs q % 2 ≡ 1 → Parts c (floor_div c (2 ^ k)) k
parts_from c q k e odd =
    subst (λ x. Parts c x k) (sym (exact_floor c q (2 ^ k) (pow_pos k) e)) (record { whole = sym e; is_odd = odd })

parts_of : (c : ℤ) (n k : ℕ) → unsigned_abs c ≡ n → n / 2 ^ k * 2 ^ k ≡ n → n / 2 ^ k % 2 ≡ 1 →
    Parts c (floor_div c (2 ^ k)) k
parts_of (pos a) n k same whole odd =
    let up : pos a ≡ pos (n / 2 ^ k) *ℤ pos (2 ^ k) = ap pos (same ∙ sym whole) in
    parts_from (pos a) (pos (n / 2 ^ k)) k up odd
parts_of (negsuc a) n k same whole odd =
    let m : ℕ = n / 2 ^ k in
    let down : negsuc a ≡ neg_ℤ (pos m *ℤ pos (2 ^ k)) = ap (λ x. neg_ℤ (pos x)) (same ∙ sym whole) in
    let size : unsigned_abs (neg_ℤ (pos m)) ≡ m = omega (arith, ints) in
    parts_from (negsuc a) (neg_ℤ (pos m)) k (down ∙ sym (neg-mul (pos m) (pos (2 ^ k)))) (omega (arith, size, odd))

some_of : (c : ℤ) → unsigned_abs c ≢ 0 → 0 < unsigned_abs c
some_of c h = positive (unsigned_abs c) h
  where
    positive : (n : ℕ) → n ≢ 0 → 0 < n
    positive zero h = absurd (h refl)
    positive (suc n) h = omega arith

-- a small number that is not 0 is its odd part, with its zeros behind it
pub odd_parts : (c : ℤ) → unsigned_abs c ≢ 0 → unsigned_abs c < 2 ^ 65 → Parts c (odd_part c) (zeros c)
unfolding odd_part zeros
odd_parts c h l =
    let n : ℕ = unsigned_abs c in
    let lowest = bit_at-trailing_zeros w128 n (some_of c h) (omega (arith, l)) in
    parts_of c n (trailing_zeros w128 n) refl (low_zeros n (trailing_zeros w128 n) lowest.2) lowest.1
