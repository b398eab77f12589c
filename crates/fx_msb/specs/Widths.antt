-- The bits that words and accumulators need for the bound of a row.
use Rattle.std.specs.Prelude.{ℕ, ◌-◌, ◌^◌, ◌≤◌, ℤ, pos, ◌+ℤ◌, ◌-ℤ◌, ◌*ℤ◌, ◌≤ℤ◌}
use Rattle.fx_math.specs.declared.words.TheConstants.{LEAST_WIDTH}
use Rattle.fx_msb.specs.declared.widths.TheConstants.{GREATEST_BOUND}

-- a magnitude that the words of a row do not pass
pub record IsBound (x : ℤ) : Type 0 where
  pub low : pos 0 ≤ℤ x
  pub high : x ≤ℤ pos GREATEST_BOUND

-- a word of so many bits takes every number up to x
abbrev pub Fits : ℤ → ℕ → Type 0
Fits x width = x ≤ℤ pos (2 ^ (width - 1) - 1)

-- a word of so many bits takes every number up to x, and no word of fewer bits does
pub record IsLeastWidth (x : ℤ) (width : ℕ) : Type 0 where
  pub low : LEAST_WIDTH ≤ width
  pub fits : Fits x width
  pub least : (w : ℕ) → LEAST_WIDTH ≤ w → Fits x w → width ≤ w

-- an accumulator of so many bits takes every rounded sum whose floor by the shift is at most x
abbrev pub AccumulatorFits : ℤ → ℕ → ℕ → Type 0
AccumulatorFits x shift bits = (pos (2 ^ shift) *ℤ (x +ℤ pos 1)) ≤ℤ pos (2 ^ (bits - 1))

-- the position of the sign bit of a word, where that of its last bit is low
abbrev pub top_of : ℕ → ℤ → ℤ
top_of width low = low +ℤ pos width -ℤ pos 1
