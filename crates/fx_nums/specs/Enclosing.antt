-- Values that lie in an interval.
use Rattle.std.specs.Prelude.{◌^◌, pos, ◌*ℤ◌, ◌≤ℤ◌}
use Rattle.fx_math.specs.Ratio.{Ratio}
use Rattle.fx_nums.specs.Interval.{Interval}
use Rattle.fx_nums.specs.declared.limits.TheConstants.{SCALE_BITS}

-- the value lies between the ends, which are in units of 2 ^ -64
pub record Encloses (i : Interval) (x : Ratio) : Type 0 where
  pub low : (i.lo *ℤ pos x.den) ≤ℤ (x.num *ℤ pos (2 ^ SCALE_BITS))
  pub high : (x.num *ℤ pos (2 ^ SCALE_BITS)) ≤ℤ (i.hi *ℤ pos x.den)
