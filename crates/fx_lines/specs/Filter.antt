-- The lines that show a filter.
use Rattle.std.specs.Prelude.{ℕ, zero, suc, ◌+◌, ◌==◌, ℤ, List, [], ◌∷◌, ◌++◌, codes, filter}
use Rattle.std.specs.Fmt.{decimal, signed_decimal}
use Rattle.std.specs.List.{join_by}
use Rattle.fx_decimal.specs.Printed.{fraction_text}
use Rattle.fx_eqs.specs.declared.mode.Mode.{Mode}
use Rattle.fx_eqs.specs.declared.mode.Mode.TheVariants.{Nearest, Floor}
use Rattle.fx_eqs.specs.declared.term.Source.{Source}
use Rattle.fx_eqs.specs.declared.term.Source.TheVariants.{Row, In}
use Rattle.fx_eqs.specs.declared.term.Term.{Term}
use Rattle.fx_files.specs.Coefficients.{form_of}
use Rattle.fx_files.specs.Filter.{Filter}
use Rattle.fx_files.specs.Forms.{form_text, structure_text}
use Rattle.fx_files.specs.declared.formats.InputFormat.{InputFormat}
use Rattle.fx_files.specs.declared.formats.OutputFormat.{OutputFormat}

-- ---- the whole

-- how rows drop their low places, where they do not round to the nearest
abbrev pub rounding_line : Mode → List ℕ
rounding_line Nearest = []
rounding_line Floor = codes "rounding floor\n"

-- the form, the structure, the rounding, the bits of an accumulator and the most bits of an inner word
abbrev pub head_lines : Filter → List ℕ
head_lines f =
    codes "form " ++ form_text (form_of f.coefficients) ++ codes "\nstructure " ++ structure_text f.settings.structure
    ++ codes "\n" ++ rounding_line f.settings.rounding ++ codes "accumulator " ++ decimal f.settings.accumulator
    ++ codes "\nword " ++ decimal f.settings.word ++ codes "\n"

-- ---- inputs and outputs

-- input j, at the low position that all inputs share
abbrev pub input_line : ℤ → ℕ → InputFormat → List ℕ
input_line low j i =
    codes "input " ++ decimal j ++ codes " width " ++ decimal i.width ++ codes " low " ++ signed_decimal low
    ++ codes " bound " ++ signed_decimal i.bound ++ codes "\n"

-- the inputs from input j on
abbrev pub input_lines : ℤ → ℕ → List InputFormat → List ℕ
input_lines low j [] = []
input_lines low j (i ∷ is) = input_line low j i ++ input_lines low (j + 1) is

-- output j, with the error that is allowed as an exact decimal
abbrev pub output_line : ℕ → OutputFormat → List ℕ
output_line j o =
    codes "output " ++ decimal j ++ codes " row " ++ decimal o.row ++ codes " width " ++ decimal o.width
    ++ codes " low " ++ signed_decimal o.low ++ codes " error " ++ fraction_text o.error ++ codes "\n"

-- the outputs from output j on
abbrev pub output_lines : ℕ → List OutputFormat → List ℕ
output_lines j [] = []
output_lines j (o ∷ os) = output_line j o ++ output_lines (j + 1) os

-- ---- equations

-- an input is u with its number, a row v with its own
abbrev pub source_text : Source → List ℕ
source_text (In j) = codes "u" ++ decimal j
source_text (Row i) = codes "v" ++ decimal i

-- the coefficient as an exact decimal, what it multiplies, and how many moments before
abbrev pub term_text : Term → List ℕ
term_text t = fraction_text t.coef ++ codes " " ++ source_text t.from ++ codes " " ++ decimal t.lag

-- the terms of a row, in the order in which they stand
abbrev pub terms_of : ℕ → List Term → List Term
terms_of row terms = filter (λ t. t.row == row) terms

-- terms with a semicolon between each two, or 0 where there is none
abbrev pub sum_text : List Term → List ℕ
sum_text [] = codes "0"
sum_text (t ∷ ts) = join_by term_text (codes "; ") (t ∷ ts)

abbrev pub row_line : List Term → ℕ → List ℕ
row_line terms row =
    codes "row " ++ decimal row ++ codes ": " ++ sum_text (terms_of row terms) ++ codes "\n"

-- the lines of the rows before this one
abbrev pub rows_before : List Term → ℕ → List ℕ
rows_before terms zero = []
rows_before terms (suc row) = rows_before terms row ++ row_line terms row

-- ---- a filter

-- its head, its inputs, its outputs, and the rows of its equations
abbrev pub filter_lines : Filter → List ℕ
filter_lines f =
    head_lines f ++ input_lines f.input_low 0 f.inputs ++ output_lines 0 f.outputs
    ++ rows_before f.equations.terms f.equations.rows
