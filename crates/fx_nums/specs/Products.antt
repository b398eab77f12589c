-- Products of a whole number with a fraction, rounded down and up, where no product reaches 2 ^ 126.
use Rattle.std.specs.Prelude.{◌≡◌, ◌<ℤ◌, ◌≤◌, ℕ, ◌+◌, ◌*◌, ◌^◌, ◌<◌, Bool, nat_lt, if◌then◌else◌, ℤ, pos, ◌*ℤ◌}
use Rattle.std.specs.Prelude.{◌+ℤ◌, ◌≤ℤ◌, unsigned_abs}
use Rattle.std.specs.Int.{int_min, int_max}
use Rattle.fx_math.specs.Division.{floor_div, ceil_div}
use Rattle.fx_nums.specs.Fraction.{Fraction, den_value}
use Rattle.fx_nums.specs.declared.limits.TheConstants.{NUMERATOR_BITS, VALUE_BITS, SUMMAND_BITS, FACTOR_BITS}
use Rattle.fx_nums.specs.declared.limits.TheConstants.{PRODUCT_BITS, DROPPED_BITS, APART_BITS}

-- the product stands in one number
abbrev pub is_exact : ℤ → ℤ → Bool
is_exact p num = nat_lt (unsigned_abs (p *ℤ num)) (2 ^ PRODUCT_BITS)

-- a number widened to the whole numbers next to p / 2 ^ 32
abbrev pub widened_low : ℤ → ℤ
widened_low p = floor_div p (2 ^ DROPPED_BITS)

abbrev pub widened_high : ℤ → ℤ
widened_high p = ceil_div p (2 ^ DROPPED_BITS)

-- the lesser and the greater product of these with a numerator
abbrev pub lesser_product : ℤ → ℤ → ℤ
lesser_product p num = int_min (widened_low p *ℤ num) (widened_high p *ℤ num)

abbrev pub greater_product : ℤ → ℤ → ℤ
greater_product p num = int_max (widened_low p *ℤ num) (widened_high p *ℤ num)

-- p * num / den rounded down: exactly, or with p widened
unfoldable pub product_down : ℤ → ℤ → ℕ → ℤ
product_down p num den =
    if is_exact p num then floor_div (p *ℤ num) den
    else floor_div (lesser_product p num) den *ℤ pos (2 ^ DROPPED_BITS)

-- and rounded up
unfoldable pub product_up : ℤ → ℤ → ℕ → ℤ
product_up p num den =
    if is_exact p num then ceil_div (p *ℤ num) den
    else ceil_div (greater_product p num) den *ℤ pos (2 ^ DROPPED_BITS)

-- the same of a fraction
abbrev pub floor_mul : ℤ → Fraction → ℤ
floor_mul p c = product_down p c.num (den_value c.den)

abbrev pub ceil_mul : ℤ → Fraction → ℤ
ceil_mul p c = product_up p c.num (den_value c.den)

-- what is multiplied: a whole number, and a fraction num / den
pub record IsOperands (p num : ℤ) (den : ℕ) : Type 0 where
  pub p_in : unsigned_abs p < 2 ^ FACTOR_BITS
  pub num_in : unsigned_abs num < 2 ^ NUMERATOR_BITS
  pub fraction_in : unsigned_abs num < 2 ^ VALUE_BITS * den
  pub positive : 0 < den

-- low and high are both roundings of p * num / den: the exact product lies between them, and they are near
pub record IsRoundedProduct (p num : ℤ) (den : ℕ) (low high : ℤ) : Type 0 where
  pub low_is : low ≡ product_down p num den
  pub high_is : high ≡ product_up p num den
  pub ordered : low ≤ℤ high
  pub low_in : unsigned_abs low ≤ 2 ^ SUMMAND_BITS
  pub high_in : unsigned_abs high ≤ 2 ^ SUMMAND_BITS
  pub below : (low *ℤ pos den) ≤ℤ (p *ℤ num)
  pub above : (p *ℤ num) ≤ℤ (high *ℤ pos den)
  pub near : high <ℤ (low +ℤ pos (2 ^ APART_BITS))
  pub low_scales : (b : ℕ) → unsigned_abs p ≤ b * 2 ^ DROPPED_BITS →
      unsigned_abs low ≤ b * 2 ^ (VALUE_BITS + DROPPED_BITS)
  pub high_scales : (b : ℕ) → unsigned_abs p ≤ b * 2 ^ DROPPED_BITS →
      unsigned_abs high ≤ b * 2 ^ (VALUE_BITS + DROPPED_BITS)
