-- Lists of input words, as runs read them.
use Rattle.std.specs.Prelude.{◌≡◌, ℕ, ◌<◌, ℤ, pos, List, [], length, slice_index, slice_index_or}
use Rattle.fx_math.specs.Residue.{FitsBits}
use Rattle.fx_code.specs.Code.{Code}

-- an input list is a list of moments, each with one word per input; its word of input j at moment k, or 0 outside
abbrev pub word_at : List (List ℤ) → ℕ → ℕ → ℤ
word_at list k j = slice_index_or (slice_index_or list k []) j (pos 0)

-- a moment of inputs of a program: one word per input, each in its width
pub record IsMoment (p : Code) (moment : List ℤ) : Type 0 where
  pub count : length moment ≡ length p.inputs
  pub fits : (j : ℕ) → j < length p.inputs → FitsBits (slice_index p.inputs j) (slice_index_or moment j (pos 0))
