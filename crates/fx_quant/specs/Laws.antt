-- What the laws of this crate say.
use Rattle.std.specs.Prelude.{ℕ, ◌*◌, ◌^◌, ◌<◌, ◌≤◌, pos, ◌-ℤ◌, ◌*ℤ◌, unsigned_abs}
use Rattle.fx_nums.specs.Fraction.{Fraction, den_value}
use Rattle.fx_quant.specs.Rounding.{rounded}

-- a rounded coefficient is off by at most half of its last place
abbrev pub RoundsToNearest : Type 0
RoundsToNearest = (fraction : ℕ) (c : Fraction) → 0 < den_value c.den →
    2 * unsigned_abs (rounded fraction c *ℤ pos (den_value c.den) -ℤ c.num *ℤ pos (2 ^ fraction)) ≤ den_value
    c.den
