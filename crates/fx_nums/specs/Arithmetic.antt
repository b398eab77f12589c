-- Products and quotients of intervals, with ends rounded outward.
use Rattle.std.specs.Prelude.{◌≡◌, ℕ, suc, ◌^◌, ◌≤◌, Bool, false, ◌&&◌, int_le, ℤ, pos, negsuc, neg_ℤ, ◌-ℤ◌}
use Rattle.std.specs.Prelude.{◌*ℤ◌, ◌≤ℤ◌, ◌+◌, ◌*◌, ◌<◌, unsigned_abs}
use Rattle.std.specs.Int.{int_min, int_max}
use Rattle.fx_math.specs.Division.{floor_div, ceil_div}
use Rattle.fx_nums.specs.Fraction.{Fraction}
use Rattle.fx_nums.specs.Interval.{Interval, IntervalFits}
use Rattle.fx_nums.specs.Products.{floor_mul, ceil_mul, product_down, product_up, widened_low, widened_high}
use Rattle.fx_nums.specs.declared.limits.TheConstants.{INTERVAL_BITS, SUMMAND_BITS, OPERAND_BITS, VALUE_BITS}
use Rattle.fx_nums.specs.declared.limits.TheConstants.{DROPPED_BITS}

-- the product of a number with a fraction
abbrev pub multiple : ℤ → Fraction → Interval
multiple p c = record { lo = floor_mul p c; hi = ceil_mul p c }

-- the products with a fraction
abbrev pub scaled : Interval → Fraction → Interval
scaled i c = record {
  lo = int_min (floor_mul i.lo c) (floor_mul i.hi c);
  hi =
      int_max (ceil_mul i.lo c) (ceil_mul i.hi c);
}

-- low and high are the ends of the products of the numbers from lo to hi with num / den
pub record IsScaled (lo hi num : ℤ) (den : ℕ) (low high : ℤ) : Type 0 where
  pub low_is : low ≡ int_min (product_down lo num den) (product_down hi num den)
  pub high_is : high ≡ int_max (product_up lo num den) (product_up hi num den)
  pub ordered : low ≤ℤ high
  pub low_in : unsigned_abs low ≤ 2 ^ SUMMAND_BITS
  pub high_in : unsigned_abs high ≤ 2 ^ SUMMAND_BITS
  pub encloses : (a : ℤ) (b : ℕ) → (lo *ℤ pos b) ≤ℤ a → a ≤ℤ (hi *ℤ pos b) →
      ((low *ℤ pos (b * den)) ≤ℤ (a *ℤ num)) × ((a *ℤ num) ≤ℤ (high *ℤ pos (b * den)))
  pub scales : (b : ℕ) → unsigned_abs lo ≤ b * 2 ^ DROPPED_BITS → unsigned_abs hi ≤ b * 2 ^ DROPPED_BITS →
      (unsigned_abs low ≤ b * 2 ^ (VALUE_BITS + DROPPED_BITS))
      × (unsigned_abs high ≤ b * 2 ^ (VALUE_BITS + DROPPED_BITS))

-- an interval with ends at the scale 2 ^ -32
abbrev pub widened : Interval → Interval
widened i = record { lo = widened_low i.lo; hi = widened_high i.hi }

-- the least and the greatest of four numbers
abbrev pub least_of : ℤ → ℤ → ℤ → ℤ → ℤ
least_of a b c d = int_min (int_min a b) (int_min c d)

abbrev pub greatest_of : ℤ → ℤ → ℤ → ℤ → ℤ
greatest_of a b c d = int_max (int_max a b) (int_max c d)

-- from the least to the greatest of what f makes of an end of a and an end of b, by f rounded down and up
abbrev pub from_ends : (ℤ → ℤ → ℤ) → (ℤ → ℤ → ℤ) → Interval → Interval → Interval
from_ends down up a b = record {
  lo = least_of (down a.lo b.lo) (down a.lo b.hi) (down a.hi b.lo) (down a.hi b.hi);
  hi = greatest_of (up a.lo b.lo) (up a.lo b.hi) (up a.hi b.lo) (up a.hi b.hi);
}

-- low and high are the ends of the products of the numbers from a to b and from c to d
pub record IsProduct (a b c d low high : ℤ) : Type 0 where
  pub low_is : low ≡ least_of (a *ℤ c) (a *ℤ d) (b *ℤ c) (b *ℤ d)
  pub high_is : high ≡ greatest_of (a *ℤ c) (a *ℤ d) (b *ℤ c) (b *ℤ d)
  pub ordered : low ≤ℤ high
  pub low_in : unsigned_abs low < 2 ^ INTERVAL_BITS
  pub high_in : unsigned_abs high < 2 ^ INTERVAL_BITS

-- the products of the numbers of two intervals, both widened
abbrev pub times : Interval → Interval → Interval
times a b = from_ends (λ x y. x *ℤ y) (λ x y. x *ℤ y) (widened a) (widened b)

-- x * 2 ^ 32 / y rounded down and up, for y other than 0
abbrev pub quotient_down : ℤ → ℤ → ℤ
quotient_down x (pos n) = floor_div (x *ℤ pos (2 ^ DROPPED_BITS)) n
quotient_down x (negsuc n) = floor_div (neg_ℤ x *ℤ pos (2 ^ DROPPED_BITS)) (suc n)

abbrev pub quotient_up : ℤ → ℤ → ℤ
quotient_up x (pos n) = ceil_div (x *ℤ pos (2 ^ DROPPED_BITS)) n
quotient_up x (negsuc n) = ceil_div (neg_ℤ x *ℤ pos (2 ^ DROPPED_BITS)) (suc n)

-- low and high are the ends of the quotients
pub record IsQuotient (a b c d low high : ℤ) : Type 0 where
  pub low_is : low ≡ least_of (quotient_down a c) (quotient_down a d) (quotient_down b c) (quotient_down b d)
  pub high_is : high ≡ greatest_of (quotient_up a c) (quotient_up a d) (quotient_up b c) (quotient_up b d)
  pub ordered : low ≤ℤ high
  pub low_in : unsigned_abs low < 2 ^ INTERVAL_BITS
  pub high_in : unsigned_abs high < 2 ^ INTERVAL_BITS

-- the quotients of the numbers of two intervals, the divisor widened
abbrev pub divided : Interval → Interval → Interval
divided a b = from_ends quotient_down quotient_up a (widened b)

-- the interval has the number 0
abbrev pub has_zero : Interval → Bool
has_zero i = int_le i.lo (pos 0) && int_le (pos 0) i.hi

-- the quotient is one that is answered
pub record QuotientFits (a b : Interval) : Type 0 where
  pub apart : has_zero (widened b) ≡ false
  pub fits : IntervalFits (divided a b) OPERAND_BITS

-- ---- other measures

-- both magnitudes are at most a bound
pub record IsWithin (bound : ℕ) (i : Interval) : Type 0 where
  pub low : unsigned_abs i.lo ≤ bound
  pub high : unsigned_abs i.hi ≤ bound

-- the least interval that has the numbers of both
abbrev pub hull : Interval → Interval → Interval
hull a b = record { lo = int_min a.lo b.lo; hi = int_max a.hi b.hi }

-- from the low end to the high one
abbrev pub width : Interval → ℤ
width i = i.hi -ℤ i.lo

-- m is the least magnitude of the numbers of the interval
pub record IsLeastMagnitude (i : Interval) (m : ℤ) : Type 0 where
  pub around : i.lo ≤ℤ pos 0 → pos 0 ≤ℤ i.hi → m ≡ pos 0
  pub above : pos 0 ≤ℤ i.lo → m ≡ i.lo
  pub below : i.hi ≤ℤ pos 0 → m ≡ neg_ℤ i.hi
