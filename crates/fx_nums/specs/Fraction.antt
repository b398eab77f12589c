-- Fractions over a power of two or of ten.
use Rattle.std.specs.Prelude.{◌≡◌, ℕ, ℤ, pos, neg_ℤ, ◌*ℤ◌, ◌*◌, ◌/◌, ◌^◌, ◌<◌, ◌≤◌, ◌==◌, ◌&&◌, Bool, int_lt}
use Rattle.std.specs.Prelude.{unsigned_abs}
use Rattle.fx_math.specs.Ratio.{Ratio}
use Rattle.fx_nums.specs.declared.fraction.Den.{Den}
use Rattle.fx_nums.specs.declared.fraction.Den.TheVariants.{Two, Ten}
use Rattle.fx_nums.specs.declared.limits.TheConstants.{NUMERATOR_BITS, VALUE_BITS, GREATEST_TWO, GREATEST_TEN}

-- the denominator as a number
abbrev pub den_value : Den → ℕ
den_value (Two e) = 2 ^ e
den_value (Ten d) = 10 ^ d

-- a denominator that is not too large
abbrev pub DenFits : Den → Type 0
DenFits (Two e) = e ≤ GREATEST_TWO
DenFits (Ten d) = d ≤ GREATEST_TEN

-- the power of ten of a denominator
abbrev pub tens : Den → ℕ
tens (Ten d) = d
tens (Two e) = 0

-- the denominator is a power of ten
abbrev pub IsOverTen : Den → Type 0
IsOverTen den = den ≡ Ten (tens den)

-- a numerator over a denominator
pub record Fraction : Type 0 where
  pub num : ℤ
  pub den : Den

-- the value of a fraction
abbrev pub value_of : Fraction → Ratio
value_of c = record { num = c.num; den = den_value c.den }

-- the limits of a fraction: of its denominator, of its numerator's magnitude, and of its value's
pub record FractionFits (num : ℤ) (den : Den) : Type 0 where
  pub den_fits : DenFits den
  pub num_fits : unsigned_abs num < 2 ^ NUMERATOR_BITS
  pub value_fits : unsigned_abs num < 2 ^ VALUE_BITS * den_value den

-- 0 over 10 ^ 0
abbrev pub zero_fraction : Fraction
zero_fraction = record { num = pos 0; den = Ten 0 }

-- 1 over 10 ^ 0
abbrev pub one_fraction : Fraction
one_fraction = record { num = pos 1; den = Ten 0 }

-- the fraction with the other sign
abbrev pub minus : Fraction → Fraction
minus c = record { num = neg_ℤ c.num; den = c.den }

-- the fraction is 0
abbrev pub is_zero : Fraction → Bool
is_zero c = unsigned_abs c.num == 0

-- the fraction is 1
abbrev pub is_one : Fraction → Bool
is_one c = int_lt (pos 0) c.num && unsigned_abs c.num == den_value c.den

-- a fraction over a power of ten
abbrev pub OverTen : Fraction → Type 0
OverTen c = IsOverTen c.den

-- c times q, which is whole where the denominator of c divides q
abbrev pub over : ℕ → Fraction → ℤ
over q c = c.num *ℤ pos (q / den_value c.den)

-- the denominator of c divides q
abbrev pub IsWholeOver : ℕ → Fraction → Type 0
IsWholeOver q c = den_value c.den * (q / den_value c.den) ≡ q
