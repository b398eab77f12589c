-- The lines of a verdict.
use Rattle.std.specs.Prelude.{ℕ, ◌+◌, ℤ, List, [], ◌∷◌, ◌++◌, codes}
use Rattle.std.specs.Fmt.{decimal, signed_decimal}
use Rattle.fx_decimal.specs.Printed.{up_text}
use Rattle.fx_sweep.specs.declared.target.Place.{Place}
use Rattle.fx_sweep.specs.declared.target.Place.TheVariants.{Weight, Gain, Input, Rest}
use Rattle.fx_block.specs.Failure.{Failure}
use Rattle.fx_block.specs.declared.inequality.Inequality.{Inequality}
use Rattle.fx_block.specs.declared.inequality.Inequality.TheVariants.{Inputs, Outputs, Accumulator, InputWidth}
use Rattle.fx_block.specs.declared.inequality.Inequality.TheVariants.{OutputWidth, Rows, Errors, Sweep, Bound}
use Rattle.fx_block.specs.declared.inequality.Inequality.TheVariants.{Word, Sum, Error, Wanted}
use Rattle.fx_lines.specs.declared.decimals.TheConstants.{PLACES}

-- a word, and v / 2 ^ 64 rounded up in the last place
abbrev pub up_part : List ℕ → ℤ → List ℕ
up_part word v = word ++ up_text v PLACES

-- ---- an accepted certificate

-- e / 2 ^ 64 steps of output o
abbrev pub error_line : ℕ → ℤ → List ℕ
error_line o e = codes "error " ++ decimal o ++ up_part (codes " ") e ++ codes "\n"

-- the errors from output o on
abbrev pub error_lines : ℕ → List ℤ → List ℕ
error_lines o [] = []
error_lines o (e ∷ es) = error_line o e ++ error_lines (o + 1) es

abbrev pub accepted_lines : List ℤ → List ℕ
accepted_lines errors = codes "accepted\n" ++ error_lines 0 errors

-- ---- a refused one

-- a number of a sweep
abbrev pub place_text : Place → List ℕ
place_text (Weight i) = codes "weight " ++ decimal i
place_text (Gain i) = codes "gain " ++ decimal i
place_text (Input j) = codes "input " ++ decimal j
place_text (Rest i) = codes "rest " ++ decimal i

-- an inequality with its place
abbrev pub inequality_text : Inequality → List ℕ
inequality_text Inputs = codes "I1 inputs"
inequality_text Outputs = codes "I1 outputs"
inequality_text Accumulator = codes "I1 accumulator"
inequality_text (InputWidth j) = codes "I1 input " ++ decimal j
inequality_text (OutputWidth o) = codes "I1 output " ++ decimal o
inequality_text Rows = codes "I1 rows"
inequality_text Errors = codes "I1 errors"
inequality_text (Sweep t place) = codes "I2 target " ++ decimal t ++ codes " " ++ place_text place
inequality_text (Bound i) = codes "I3 row " ++ decimal i
inequality_text (Word i) = codes "I4 row " ++ decimal i
inequality_text (Sum i) = codes "I5 row " ++ decimal i
inequality_text (Error o) = codes "I6 output " ++ decimal o
inequality_text (Wanted o) = codes "I7 output " ++ decimal o

-- the end of a line: what is there, and the limit that it passes or the number that is wanted
abbrev pub sides_line : ℤ → ℤ → List ℕ
sides_line left right = codes " " ++ signed_decimal left ++ codes " " ++ signed_decimal right ++ codes "\n"

-- the first inequality that fails, its left side and its right side
abbrev pub refused_line : Failure → List ℕ
refused_line failure = codes "refused " ++ inequality_text failure.which ++ sides_line failure.left failure.right

-- ---- either
