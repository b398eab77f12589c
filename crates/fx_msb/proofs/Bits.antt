-- Powers of two around a bound.
use Rattle.std.proofs.Common.{◌≡◌, ◌↔◌, ℕ, zero, suc, ◌+◌, ◌-◌, ◌*◌, ◌^◌, ◌%◌, ◌<◌, ◌≤◌, ◌∙◌, max, ℤ, pos, ◌+ℤ◌}
use Rattle.std.proofs.Common.{◌*ℤ◌, ◌≤ℤ◌, IsTrue, leb, ap, refl, arith, rules, inl, inr, lit≤, lit<}
use Rattle.std.proofs.Math.Nat.{pow-le-pow_right, max-eq_right, mod-eq_of_lt, mul-le-mul_left}
use Rattle.std.proofs.lemmas.Bool.{cases_lt}
use Rattle.std.proofs.lemmas.Int.{ints}
use Rattle.std.proofs.lemmas.Nat.{pow_pos, leading_length}
use lib.Count.{count_leading_zeros}
use Rattle.fx_math.specs.Words.{WidthFits}
use Rattle.fx_msb.specs.Widths.{AccumulatorFits, Fits, IsLeastWidth}

-- ---- the least width

not_fewer : (n k w : ℕ) → 2 ^ suc k ≤ 2 * n + 1 → 2 ≤ w → Fits (pos n) w → suc (suc k) ≤ w
not_fewer n k w above low fits = elim (cases_lt w (suc (suc k))) [
  | inl fewer ↦
      let power : 2 ^ (w - 1) ≤ 2 ^ k = pow-le-pow_right (lit< tt) (omega arith) in
      let some : 0 < 2 ^ (w - 1) = pow_pos (w - 1) in
      let below : n ≤ 2 ^ (w - 1) - 1 = omega (arith, ints) in
      absurd (omega (arith, above))
  | inr enough ↦ enough
]

width_of : (n m : ℕ) → n < 2 ^ m → 2 ^ m ≤ 2 * n + 1 → IsLeastWidth (pos n) (max 2 (m + 1))
width_of n zero below above =
    let none : n ≡ 0 = omega arith in
    let same : max 2 (0 + 1) ≡ 2 = refl in
    let inside : pos n ≤ℤ pos (2 ^ 1 - 1) = omega (arith, ints) in
    rw same (record { low = lit≤ tt; fits = inside; least = λ w low fits. low })
width_of n (suc k) below above =
    let same : max 2 (suc k + 1) ≡ suc (suc k) = max-eq_right (omega arith) ∙ omega arith in
    let inside : pos n ≤ℤ pos (2 ^ suc k - 1) = omega (arith, ints) in
    let one : suc (suc k) - 1 ≡ suc k = omega arith in
    rw same (record { low = omega arith; fits = rw one inside; least = λ w low fits. not_fewer n k w above low fits })

pub least_width_is : (x : ℤ) (n : ℕ) → x ≡ pos n → n ≤ 2147483647 →
    IsLeastWidth x (max 2 (64 - count_leading_zeros 64 n + 1))
least_width_is x n same high =
    let (m, bits, below, above) = leading_length 64 n (omega arith) in
    let count : 64 - count_leading_zeros 64 n + 1 ≡ m + 1 = omega arith in
    rw (same, count) (width_of n m below above)

pub least_width_fits : (x : ℤ) (n w : ℕ) → x ≡ pos n → n ≤ 2147483647 → IsLeastWidth x w → WidthFits w
least_width_fits x n w same high h = record { low = h.low; high = h.least 32 (lit≤ tt) (rw same (omega (arith, ints))) }

-- ---- the accumulator

shifted_small : (n s : ℕ) → n ≤ 2147483647 → s < 64 → (n + 1) * 2 ^ s < 2 ^ 128
shifted_small n s high few =
    let below : s ≤ 63 = omega arith in
    let power : 2 ^ s ≤ 2 ^ 63 = pow-le-pow_right (lit< tt) below in
    let product : (n + 1) * 2 ^ s ≤ (n + 1) * 2 ^ 63 = mul-le-mul_left (n + 1) power in
    omega arith

bits_small : (w : ℕ) → w ≤ 64 → 2 ^ (w - 1) < 2 ^ 128
bits_small w few =
    let below : w - 1 ≤ 63 = omega arith in
    let power : 2 ^ (w - 1) ≤ 2 ^ 63 = pow-le-pow_right (lit< tt) below in
    omega arith

product_is : (n s : ℕ) → pos (2 ^ s) *ℤ (pos n +ℤ pos 1) ≡ pos ((n + 1) * 2 ^ s)
product_is n s = ap pos (grind arith)

pub accumulator_test : (x : ℤ) (n s w : ℕ) → x ≡ pos n → n ≤ 2147483647 → s < w → w ≤ 64
    → IsTrue (leb ((n + 1) * 2 ^ s % 2 ^ 128) (1 * 2 ^ (w - 1) % 2 ^ 128)) ↔ AccumulatorFits x s w
accumulator_test x n s w same high shifted few =
    let left : (n + 1) * 2 ^ s % 2 ^ 128 ≡ (n + 1) * 2 ^ s = mod-eq_of_lt (shifted_small n s high (omega arith)) in
    let one : 1 * 2 ^ (w - 1) ≡ 2 ^ (w - 1) = omega arith in
    let right : 2 ^ (w - 1) % 2 ^ 128 ≡ 2 ^ (w - 1) = mod-eq_of_lt (bits_small w few) in
    rw (left, one, right, same, product_is n s) (search rules)
