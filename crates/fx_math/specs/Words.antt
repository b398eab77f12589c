-- The bits that words and accumulators may have.
use Rattle.std.specs.Prelude.{ℕ, ◌≤◌, ◌==◌, Bool}
use Rattle.std.specs.List.{list_any}
use Rattle.fx_math.specs.declared.words.TheConstants.{LEAST_WIDTH, GREATEST_WIDTH, ACCUMULATORS}

-- the bits of a word
pub record WidthFits (width : ℕ) : Type 0 where
  pub low : LEAST_WIDTH ≤ width
  pub high : width ≤ GREATEST_WIDTH

-- the bits of an accumulator are listed
abbrev pub is_accumulator : ℕ → Bool
is_accumulator bits = list_any (λ b. b == bits) ACCUMULATORS
