-- Which inputs a filter admits.
use Rattle.std.specs.Prelude.{◌≡◌, ℕ, ◌<◌, ℤ, pos, ◌≤ℤ◌, unsigned_abs, List, length, slice_index_or, All}
use Rattle.fx_files.specs.Filter.{Filter}
use Rattle.fx_block.specs.Formats.{input_at}

-- one word per input, each within its bound
pub record IsAdmissibleMoment (filter : Filter) (moment : List ℤ) : Type 0 where
  pub count : length moment ≡ length filter.inputs
  pub within : (j : ℕ) → j < length moment →
      pos (unsigned_abs (slice_index_or moment j (pos 0))) ≤ℤ (input_at filter j).bound

-- an input list of any length, all of whose words are within their bounds
abbrev pub IsAdmissible : Filter → List (List ℤ) → Type 0
IsAdmissible filter list = All (IsAdmissibleMoment filter) list
