-- Intervals at the scale 2 ^ -64.
use Rattle.std.specs.Prelude.{ℕ, ℤ, pos, neg_ℤ, ◌+ℤ◌, ◌*ℤ◌, ◌^◌, ◌<◌, ◌≤ℤ◌, unsigned_abs, max}
use Rattle.fx_nums.specs.declared.limits.TheConstants.{INTERVAL_BITS}
use Rattle.fx_math.specs.Division.{floor_div, ceil_div}

-- the numbers from lo to hi
pub record Interval : Type 0 where
  pub lo : ℤ
  pub hi : ℤ

-- both magnitudes are below a power of two
pub record IntervalFits (i : Interval) (bits : ℕ) : Type 0 where
  pub lo_fits : unsigned_abs i.lo < 2 ^ bits
  pub hi_fits : unsigned_abs i.hi < 2 ^ bits

-- what every interval keeps
pub record IsInterval (i : Interval) : Type 0 where
  pub ordered : i.lo ≤ℤ i.hi
  pub fits : IntervalFits i INTERVAL_BITS

-- one number
abbrev pub point : ℤ → Interval
point v = record { lo = v; hi = v }

-- the least interval that encloses z / n
abbrev pub enclosure : ℤ → ℕ → Interval
enclosure z n = record { lo = floor_div (z *ℤ pos (2 ^ 64)) n; hi = ceil_div (z *ℤ pos (2 ^ 64)) n }

-- the sums of the numbers of two intervals
abbrev pub plus : Interval → Interval → Interval
plus a b = record { lo = a.lo +ℤ b.lo; hi = a.hi +ℤ b.hi }

-- the numbers with the other sign
abbrev pub opposite : Interval → Interval
opposite a = record { lo = neg_ℤ a.hi; hi = neg_ℤ a.lo }

-- the greater magnitude of the ends
abbrev pub magnitude : Interval → ℕ
magnitude i = max (unsigned_abs i.lo) (unsigned_abs i.hi)
