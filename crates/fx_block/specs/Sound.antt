-- When a program does what a filter asks for, on all admissible inputs and for all time.
use Rattle.std.specs.Prelude.{◌≡◌, ℕ, ◌<◌, ℤ, pos, List, length, map, slice_index_or}
use Rattle.fx_files.specs.Filter.{Filter}
use Rattle.fx_files.specs.declared.formats.InputFormat.{InputFormat}
use Rattle.fx_code.specs.Code.{Code}
use Rattle.fx_code.specs.Inputs.{word_at}
use Rattle.fx_code.specs.Run.{output_word, IsExact}
use Rattle.fx_block.specs.Admissible.{IsAdmissible}
use Rattle.fx_block.specs.Formats.{output_at, shift_of}
use Rattle.fx_block.specs.Near.{IsNearExact}

-- the word of output o at moment k is near the filter's exact output, in output steps
abbrev pub IsNearAt : Filter → Code → (ℕ → ℕ → ℤ) → ℕ → ℕ → ℤ → Type 0
IsNearAt filter p u k o e =
    IsNearExact filter.equations u k (output_at filter o).row (shift_of filter o) (output_word p u k o) e

-- The program has the filter's inputs and outputs, and there is an error for each output. For every admissible input
-- list, at each of its moments, each row of the program is exact, and each output is within its error of the filter's
-- exact output.
pub record IsSound (filter : Filter) (p : Code) (errors : List ℤ) : Type 0 where
  pub same_inputs : p.inputs ≡ map (λ (f : InputFormat). f.width) filter.inputs
  pub same_outputs : length p.outputs ≡ length filter.outputs
  pub error_each : length errors ≡ length filter.outputs
  pub exact : (list : List (List ℤ)) → IsAdmissible filter list → (k i : ℕ) → k < length list →
      i < length p.rows → IsExact p (word_at list) k i
  pub near : (list : List (List ℤ)) → IsAdmissible filter list → (k o : ℕ) → k < length list →
      o < length filter.outputs →
      IsNearAt filter p (word_at list) k o (slice_index_or errors o (pos 0))
