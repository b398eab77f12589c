-- The text of a program's run.
use Rattle.std.specs.Prelude.{ℕ, zero, suc, ℤ, List, [], ◌++◌, codes, length}
use Rattle.std.specs.Fmt.{signed_decimal}
use Rattle.std.specs.List.{join_by}
use Rattle.fx_code.specs.Code.{Code}
use Rattle.fx_code.specs.Inputs.{word_at}
use Rattle.fx_code.specs.Run.{outputs_at}

-- words in decimal, joined by commas, and a line feed
abbrev pub line_of : List ℤ → List ℕ
line_of line = join_by signed_decimal (codes ",") line ++ codes "\n"

-- the lines of the output words of the moments before this one
unfoldable pub lines_before : Code → (ℕ → ℕ → ℤ) → ℕ → List ℕ
lines_before p u zero = []
lines_before p u (suc k) = lines_before p u k ++ line_of (outputs_at p u k)

-- the text of a run on a list of moments: one line for each
abbrev pub run_text : Code → List (List ℤ) → List ℕ
run_text p list = lines_before p (word_at list) (length list)
