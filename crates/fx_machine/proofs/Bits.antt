-- Numbers of so many bits, and residues.
use Rattle.std.proofs.Common.{◌≡◌, ℕ, zero, suc, ◌+◌, ◌*◌, ◌-◌, ◌^◌, ◌<◌, ◌≤◌, ℤ, pos, negsuc, ◌+ℤ◌, ◌-ℤ◌, ◌≤ℤ◌}
use Rattle.std.proofs.Common.{◌<ℤ◌, ◌*ℤ◌, ◌||◌, nat_le, false, unsigned_abs, inl, inr, arith, lit<, ap, ◌∙◌, neg_ℤ}
use Rattle.std.proofs.Common.{sym, subst, true}
use Rattle.std.specs.Int.{int_rem_euclid}
use Rattle.std.proofs.Math.Nat.{pow-succ'}
use Rattle.std.specs.Int.Bits.{bit_or}
use Rattle.std.proofs.lemmas.Nat.{pow_pos, or_lt, le_or_l, le_or_r}
use Rattle.std.proofs.lemmas.Bool.{cases_lt, cases_Bool}
use Rattle.std.proofs.lemmas.Int.{ints}
use Rattle.std.proofs.lemmas.Bool.Decides.{nat_tests}
use Rattle.fx_math.specs.Residue.{wrap, FitsBits}
use Rattle.fx_math.specs.Division.{floor_div}
use Rattle.fx_math.proofs.Division.{floor_below, floor_above}
use Rattle.fx_math.proofs.Residue.{wrap_fits, residue_congruence}
use Rattle.std.proofs.Math.Nat.{pow-le-pow_right}
use Rattle.fx_machine.specs.Prepared.{half_of, is_beyond, is_outside}

-- a number is one of the bits exactly where the test says so
pub fits_from : (w : ℕ) (z : ℤ) → is_outside w z ≡ false → FitsBits w z
fits_from w (pos n) h = record { low = omega (arith, ints); high = grind (arith, ints, nat_tests, h) }
fits_from w (negsuc n) h = record { low = grind (arith, ints, nat_tests, h); high = omega (arith, ints) }

pub inside_from : (w : ℕ) (z : ℤ) → FitsBits w z → is_outside w z ≡ false
inside_from w (pos n) f = let h : n < 2 ^ (w - 1) = omega (arith, ints, f.high) in grind (arith, nat_tests)
inside_from w (negsuc n) f = let h : n < 2 ^ (w - 1) = omega (arith, ints, f.low) in grind (arith, nat_tests)

-- a residue is one of the bits
residue_low : (z : ℤ) (m : ℕ) → 0 < m → pos 0 ≤ℤ int_rem_euclid z (pos m)
residue_low (pos a) m h = omega (arith, ints)
residue_low (negsuc a) m h = omega (arith, ints)

residue_high : (z : ℤ) (m : ℕ) → 0 < m → int_rem_euclid z (pos m) <ℤ pos m
residue_high (pos a) m h = omega (arith, ints)
residue_high (negsuc a) m h = omega (arith, ints)

pub wrap_inside : (w : ℕ) (z : ℤ) → 1 ≤ w → is_outside w z ≡ false → wrap w z ≡ z
wrap_inside w z h e = wrap_fits w z h (fits_from w z e)

pub wrap_is_bits : (w : ℕ) (z : ℤ) → 1 ≤ w → FitsBits w (wrap w z)
unfolding wrap
wrap_is_bits zero z h = absurd (omega arith)
wrap_is_bits (suc w) z h =
    let d : 2 ^ suc w ≡ 2 * 2 ^ (suc w - 1) = pow-succ' 2 w ∙ ap (λ n. 2 * 2 ^ n) (omega arith) in
    let some : 0 < 2 ^ suc w = pow_pos (suc w) in
    let low = residue_low (z +ℤ pos (2 ^ (suc w - 1))) (2 ^ suc w) some in
    let high = residue_high (z +ℤ pos (2 ^ (suc w - 1))) (2 ^ suc w) some in
    record { low = omega (arith, ints, low); high = omega (arith, ints, d, high) }

-- z is one of the numbers of which so many lie below 0 and as many from 0 on
pub record IsWithin (half : ℕ) (z : ℤ) : Type 0 where
  pub low : neg_ℤ (pos half) ≤ℤ z
  pub high : z <ℤ pos half

pub within_bits : (w : ℕ) (z : ℤ) → FitsBits w z → IsWithin (half_of w) z
within_bits w z f = record { low = f.low; high = f.high }

pub within_small : (half : ℕ) (z : ℤ) → IsWithin half z → unsigned_abs z ≤ half
within_small half (pos n) f = omega (arith, ints, f.high)
within_small half (negsuc n) f = omega (arith, ints, f.low)

pub zero_fits : (w : ℕ) → FitsBits w (pos 0)
zero_fits w = let some : 0 < half_of w = pow_pos (w - 1) in
    record { low = omega (arith, ints, some); high = omega (arith, ints, some) }

-- twice the half
pub twice_half : (w : ℕ) → 1 ≤ w → half_of w + half_of w ≡ 2 ^ w
twice_half zero h = absurd (omega arith)
twice_half (suc w) h =
    let d : 2 ^ suc w ≡ 2 * 2 ^ (suc w - 1) = pow-succ' 2 w ∙ ap (λ n. 2 * 2 ^ n) (omega arith) in
    omega (arith, d)

pub half_small : (w k : ℕ) → w ≤ k + 1 → half_of w ≤ 2 ^ k
half_small w k h = let e : w - 1 ≤ k = omega arith in pow-le-pow_right (lit< tt) e

-- a sum of bits reaches a power of two where one of its parts does
pub or_reaches : (k a b : ℕ) → nat_le (2 ^ k) (bit_or a b) ≡ (nat_le (2 ^ k) a || nat_le (2 ^ k) b)
or_reaches k a b =
    elim (cases_lt a (2 ^ k)) [
      | inl small ↦ elim (cases_lt b (2 ^ k)) [
        | inl less ↦ let both : bit_or a b < 2 ^ k = or_lt k a b small less in grind (arith, nat_tests)
        | inr more ↦ let one : b ≤ bit_or a b = le_or_r a b in grind (arith, nat_tests)
      ]
      | inr big ↦ let one : a ≤ bit_or a b = le_or_l a b in grind (arith, nat_tests)
    ]

-- a number without its low bits is not much larger
pub high_near : (m : ℕ) (z : ℤ) → 0 < m → unsigned_abs (floor_div z m *ℤ pos m) ≤ unsigned_abs z + m
high_near m z some = omega (arith, ints, floor_below z m some, floor_above z m some)

pub high_small : (bits : ℕ) (z : ℤ) → bits ≤ 64 → unsigned_abs z ≤ 2 ^ 126 + 2 ^ 63 →
    unsigned_abs (floor_div z (2 ^ bits) *ℤ pos (2 ^ bits)) < 2 ^ 127
high_small bits z h small =
    let some : 0 < 2 ^ bits = pow_pos bits in
    let power : 2 ^ bits ≤ 2 ^ 64 = pow-le-pow_right (lit< tt) h in
    let low = floor_below z (2 ^ bits) some in
    let high = floor_above z (2 ^ bits) some in
    omega (arith, ints, small, power, low, high)

pub wrap_is : (bits : ℕ) (z half high : ℤ) → 1 ≤ bits → half ≡ pos (2 ^ (bits - 1)) →
    high ≡ floor_div (z +ℤ half) (2 ^ bits) *ℤ pos (2 ^ bits) → z -ℤ high ≡ wrap bits z
wrap_is bits z half high low h e =
    let same : high ≡ floor_div (z +ℤ pos (2 ^ (bits - 1))) (2 ^ bits) *ℤ pos (2 ^ bits) =
    e ∙ ap (λ x. floor_div (z +ℤ x) (2 ^ bits) *ℤ pos (2 ^ bits)) h in
    omega (arith, ints, same, residue_congruence bits z low)

-- a test of a raised number is one of its bits
pub at_half : (half bits raised : ℕ) (z : ℤ) → half ≡ half_of bits → 1 ≤ bits →
    nat_le (half + half) raised ≡ is_beyond half z → nat_le (2 ^ bits) raised ≡ is_outside bits z
at_half half bits raised z e low h =
    ap (λ (n : ℕ). nat_le n raised) (sym (twice_half bits low)) ∙ ap (λ (n : ℕ). nat_le (n + n) raised) (sym e) ∙ h
    ∙ ap (λ (n : ℕ). is_beyond n z) e

-- the low bits of a number are the number exactly where it is one of so many bits
pub inside_where : (w : ℕ) (z : ℤ) → 1 ≤ w → wrap w z ≡ z → is_outside w z ≡ false
inside_where w z h same = inside_from w z (subst (FitsBits w) same (wrap_is_bits w z h))

pub outside_where : (w : ℕ) (z : ℤ) → 1 ≤ w → (wrap w z ≡ z → ⊥) → is_outside w z ≡ true
outside_where w z h other =
    elim (cases_Bool (is_outside w z)) [
      | inl out ↦ out
      | inr inside ↦ absurd (other (wrap_inside w z h inside))
    ]
