-- The parts of the total of a target.
use Rattle.std.specs.Prelude.{◌≡◌, ℕ, ◌-◌, ◌^◌, ℤ, ◌+ℤ◌}
use Rattle.fx_nums.specs.Interval.{Interval}
use Rattle.fx_net.specs.Net.{Net}
use Rattle.fx_totals.specs.Kept.{IsUpTo, greatest_total}
use Rattle.fx_totals.specs.Totals.{input_part, rest_part, rounding, target_total, width_part}
use Rattle.fx_error.specs.declared.parts.Parts.{Parts}

-- What the roundings add; what the inputs add and what was cut off the weights; and what lies before the block. The
-- three add up to the total.
pub record ArePartsOf (net : Net) (start : ℕ → Interval) (m : ℕ) (bounds rows : ℕ → ℕ) (parts : Parts) : Type 0 where
  pub rounding_is : parts.rounding ≡ rounding net start m
  pub difference_is : parts.difference ≡ input_part net start m bounds +ℤ width_part net start m rows
  pub rest_is : parts.rest ≡ rest_part net start m rows
  pub whole : parts.rounding +ℤ parts.difference +ℤ parts.rest ≡ target_total net start m bounds rows

-- what the parts add up to
abbrev pub whole_of : Parts → ℤ
whole_of parts = parts.rounding +ℤ parts.difference +ℤ parts.rest

-- none is negative, and they and their sum are below 2 ^ 126
pub record PartsFit (parts : Parts) : Type 0 where
  pub rounding : IsUpTo greatest_total parts.rounding
  pub difference : IsUpTo greatest_total parts.difference
  pub rest : IsUpTo greatest_total parts.rest
  pub whole : IsUpTo greatest_total (whole_of parts)
