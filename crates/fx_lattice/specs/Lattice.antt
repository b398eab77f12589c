-- Lattices of enclosures: reflection coefficients and taps.
use Rattle.std.specs.Prelude.{◌≡◌, ℕ, suc, ◌+◌, ◌-◌, ◌/◌, ◌≤◌, ◌<ℤ◌, ◌^◌, ℤ, pos, negsuc, neg_ℤ, List, length}
use Rattle.std.specs.Prelude.{slice_index_or}
use Rattle.fx_nums.specs.Fraction.{Fraction}
use Rattle.fx_nums.specs.declared.fraction.Den.TheVariants.{Two}
use Rattle.fx_nums.specs.Interval.{Interval, point}
use Rattle.fx_nums.specs.declared.limits.TheConstants.{SCALE_BITS}
use Rattle.fx_eqs.specs.declared.limits.TheConstants.{REFLECTIONS}

-- k_1 to k_N and v_0 to v_N
pub record Lattice : Type 0 where
  pub k : List Interval
  pub v : List Interval

-- one tap more than reflection coefficients
pub record LatticeFits (l : Lattice) : Type 0 where
  pub taps : length l.v ≡ length l.k + 1
  pub few : length l.k ≤ REFLECTIONS

-- the number at a place; 0 where there is none
abbrev pub at : List Interval → ℕ → Interval
at xs j = slice_index_or xs j (point (pos 0))

-- k_i, for i from 1 on, and v_i
abbrev pub reflection : Lattice → ℕ → Interval
reflection l i = at l.k (i - 1)

abbrev pub tap : Lattice → ℕ → Interval
tap l i = at l.v i

-- the enclosed numbers lie strictly between -1 and 1
pub record IsBelowOne (i : Interval) : Type 0 where
  pub low : neg_ℤ (pos (2 ^ SCALE_BITS)) <ℤ i.lo
  pub high : i.hi <ℤ pos (2 ^ SCALE_BITS)

-- z / n, cut towards zero
abbrev pub cut : ℤ → ℕ → ℤ
cut (pos m) n = pos (m / n)
cut (negsuc m) n = neg_ℤ (pos (suc m / n))

-- the low end over 2 ^ bits, cut towards zero
abbrev pub low_over : ℕ → Interval → Fraction
low_over bits i = record { num = cut i.lo (2 ^ (SCALE_BITS - bits)); den = Two bits }
