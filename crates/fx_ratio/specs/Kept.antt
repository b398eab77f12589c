-- What is kept beside a fraction.
use Rattle.std.specs.Prelude.{◌≡◌, ℕ, ◌+◌, ◌*◌, ◌/◌, ◌^◌, ◌<◌, ◌≤◌, unsigned_abs}
use Rattle.fx_nums.specs.Fraction.{Fraction, den_value}
use Rattle.fx_nums.specs.declared.limits.TheConstants.{NUMERATOR_BITS, VALUE_BITS, GREATEST_TEN}

-- ratio is 2 ^ 64 times mag / den, rounded down; mag and den are those of a fraction
pub record IsRatio (mag den ratio : ℕ) : Type 0 where
  pub positive : 0 < den
  pub den_in : den ≤ 10 ^ GREATEST_TEN
  pub mag_in : mag < 2 ^ NUMERATOR_BITS
  pub value_in : mag < 2 ^ VALUE_BITS * den
  pub low : ratio * den ≤ mag * 2 ^ 64
  pub high : mag * 2 ^ 64 < (ratio + 1) * den

-- 2 ^ 64 times the magnitude of a fraction, rounded down
abbrev pub ratio_of : Fraction → ℕ
ratio_of c = unsigned_abs c.num * 2 ^ 64 / den_value c.den

-- den is the denominator of a fraction, and ratio its ratio
pub record IsKept (c : Fraction) (den ratio : ℕ) : Type 0 where
  pub den_is : den ≡ den_value c.den
  pub ratio_is : ratio ≡ ratio_of c
  pub is_ratio : IsRatio (unsigned_abs c.num) den ratio
