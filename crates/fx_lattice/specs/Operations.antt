-- Operations on intervals with ends of 88 bits, where what comes of them has such ends too.
use Rattle.std.specs.Prelude.{◌^◌, nat_lt, int_lt, Bool, ◌&&◌, cond, pos, neg_ℤ, unsigned_abs, Option, Some}
use Rattle.std.specs.Prelude.{None, option_and_then}
use Rattle.fx_nums.specs.Arithmetic.{divided, has_zero, times, widened}
use Rattle.fx_nums.specs.Interval.{Interval, opposite, plus, point}
use Rattle.fx_nums.specs.declared.limits.TheConstants.{OPERAND_BITS, SCALE_BITS}

-- the number 1
abbrev pub one_point : Interval
one_point = point (pos (2 ^ SCALE_BITS))

-- both ends are below 2 ^ 88 in magnitude
abbrev pub fits : Interval → Bool
fits i = nat_lt (unsigned_abs i.lo) (2 ^ OPERAND_BITS) && nat_lt (unsigned_abs i.hi) (2 ^ OPERAND_BITS)

unfoldable pub in_range : Interval → Option Interval
in_range i = cond (fits i) (Some i) None

-- a - x * y
unfoldable pub less_product : Interval → Interval → Interval → Option Interval
less_product a x y = option_and_then (λ p. in_range (plus a (opposite p))) (in_range (times x y))

-- x / y, where y does not enclose 0
unfoldable pub quotient : Interval → Interval → Option Interval
quotient x y = cond (has_zero (widened y)) None (in_range (divided x y))

-- strictly between -1 and 1
abbrev pub is_below_one : Interval → Bool
is_below_one i = int_lt (neg_ℤ (pos (2 ^ SCALE_BITS))) i.lo && int_lt i.hi (pos (2 ^ SCALE_BITS))
