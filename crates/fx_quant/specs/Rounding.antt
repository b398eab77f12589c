-- Coefficients, rounded to so many places behind the point, each an odd number times a power of two.
use Rattle.std.specs.Prelude.{ℕ, ◌+◌, ◌*◌, ◌^◌, ℤ, pos, ◌+ℤ◌, ◌*ℤ◌, unsigned_abs}
use Rattle.std.specs.Int.{w128, trailing_zeros}
use Rattle.fx_math.specs.Division.{floor_div}
use Rattle.fx_nums.specs.Fraction.{Fraction, den_value}

-- c in units of 2 ^ -fraction, rounded to the nearest whole number, and up from the middle between two: the floor of
-- c * 2 ^ fraction + 1 / 2
unfoldable pub rounded : ℕ → Fraction → ℤ
rounded fraction c = floor_div (c.num *ℤ pos (2 ^ (fraction + 1)) +ℤ pos (den_value c.den)) (2 * den_value c.den)

-- how often 2 divides c: the zeros at the low end of its magnitude
unfoldable pub zeros : ℤ → ℕ
zeros c = trailing_zeros w128 (unsigned_abs c)

-- what is left of c
unfoldable pub odd_part : ℤ → ℤ
odd_part c = floor_div c (2 ^ zeros c)
