-- The widths of the rows of a design.
use Rattle.std.specs.Prelude.{◌≡◌, ℕ, ◌-◌, ◌<◌, ℤ, pos, List, length, drop, slice_index_or}
use Rattle.fx_msb.specs.Widths.{IsLeastWidth}

-- each width is the least that takes its bound
pub record HasLeastWidths (bounds : List ℤ) (widths : List ℕ) : Type 0 where
  pub count : length widths ≡ length bounds
  pub least : (i : ℕ) → i < length widths → IsLeastWidth (slice_index_or bounds i (pos 0)) (slice_index_or widths i 0)

-- The last of so many rows are put out, and have the widths of the outputs; each other row has the least width that
-- takes its bound.
pub record AreRowWidths (rows : ℕ) (bounds : List ℤ) (outputs widths : List ℕ) : Type 0 where
  pub count : length widths ≡ rows
  pub inner : (i : ℕ) → i < rows - length outputs →
      IsLeastWidth (slice_index_or bounds i (pos 0)) (slice_index_or widths i 0)
  pub put_out : drop (rows - length outputs) widths ≡ outputs
