-- A quotient guessed by a ratio is right, or one too low.
use Rattle.std.proofs.Common.{◌≡◌, ℕ, ◌+◌, ◌*◌, ◌/◌, ◌%◌, ◌^◌, ◌<◌, ◌≤◌, arith, refl, ◌∙◌, le_of_lt}
use Rattle.std.proofs.lemmas.Nat.{div-add-mod'}
use Rattle.std.proofs.Math.Nat.{mul-le-mul_left, mul-le-mul_right, mul-lt-mul_of_pos_right, lt_of_mul-lt-mul_right}
use Rattle.fx_math.proofs.Rounding as rounding
use Rattle.fx_ratio.specs.Kept.{IsRatio}

-- a quotient and its rest
pub quotient_is : (q t r n : ℕ) → q * t + r ≡ n → r < t → n / t ≡ q
quotient_is q t r n e h = rounding.quotient_is q t r n e h

pub rest_is : (q t r n : ℕ) → q * t + r ≡ n → r < t → n % t ≡ r
rest_is q t r n e h = rounding.rest_is q t r n e h

-- a ratio is below 2 ^ 88
pub ratio_in : (mag den ratio : ℕ) → IsRatio mag den ratio → ratio < 2 ^ 88
ratio_in mag den ratio h = below ratio den (omega (arith, h.low, h.value_in))
  where
    below : (r t : ℕ) → r * t < 2 ^ 88 * t → r < 2 ^ 88
    below r t h = lt_of_mul-lt-mul_right t h

-- the product with the ratio, from its halves
pub split : (x r : ℕ) → x * (r / 2 ^ 64) + x * (r % 2 ^ 64) / 2 ^ 64 ≡ x * r / 2 ^ 64
split x r = halves x (r / 2 ^ 64) (r % 2 ^ 64) ∙ rw (div-add-mod' r (2 ^ 64)) refl
  where
    halves : (x a b : ℕ) → x * a + x * b / 2 ^ 64 ≡ x * (a * 2 ^ 64 + b) / 2 ^ 64
    halves x a b = omega arith

-- what is left at the guess, and what is left after one more
pub guess_below : (x mag t r g : ℕ) → x < 2 ^ 64 → IsRatio mag t r → g ≡ x * r / 2 ^ 64 →
    (g * t ≤ x * mag) × (x * mag < g * t + t + t)
guess_below x mag t r g x_in h e = rw e (omega (arith, below), omega (arith, above))
  where
    q : ℕ
    q = x * r / 2 ^ 64

    from : q * 2 ^ 64 ≤ x * r
    from = omega arith

    upto : x * r < (q + 1) * 2 ^ 64
    upto = omega arith

    below : q * t * 2 ^ 64 ≤ x * mag * 2 ^ 64
    below = omega (arith, mul-le-mul_right t from, mul-le-mul_left x h.low)

    above : x * mag * 2 ^ 64 < (q + 2) * t * 2 ^ 64
    above = omega (
      arith,
      mul-lt-mul_of_pos_right upto h.positive,
      mul-le-mul_left x (le_of_lt h.high),
      mul-lt-mul_of_pos_right x_in h.positive,
    )

-- what is left at the guess, from low bits, where it is below 2 ^ 64
pub low_rest_is : (g t n r : ℕ) → t < 2 ^ 63 → r < 2 ^ 64 → g * t ≤ n → n < g * t + t + t →
    (r + g % 2 ^ 64 * t) % 2 ^ 64 ≡ n % 2 ^ 64 → g * t + r ≡ n
low_rest_is g t n r narrow fits low high same =
    let parts : g / 2 ^ 64 * t * 2 ^ 64 + g % 2 ^ 64 * t ≡ g * t = halves t (g / 2 ^ 64) (g % 2 ^ 64)
    ∙ rw (div-add-mod' g (2 ^ 64)) refl in
    omega (arith, parts, narrow, fits, low, high, same)
  where
    halves : (t a b : ℕ) → a * t * 2 ^ 64 + b * t ≡ (a * 2 ^ 64 + b) * t
    halves t a b = omega arith
