-- The lines of a report: the formats of a program with the bounds of a certificate, and the parts of its errors.
use Rattle.std.specs.Prelude.{ℕ, ◌+◌, ◌-◌, ◌^◌, ℤ, pos, ◌-ℤ◌, List, [], ◌∷◌, ◌++◌, length, codes}
use Rattle.std.specs.Prelude.{slice_index_or}
use Rattle.std.specs.Fmt.{decimal, signed_decimal}
use Rattle.fx_math.specs.Sums.{joined}
use Rattle.fx_decimal.specs.Printed.{fraction_text}
use Rattle.fx_files.specs.Filter.{Filter}
use Rattle.fx_files.specs.declared.formats.OutputFormat.{OutputFormat}
use Rattle.fx_code.specs.Code.{Code, row_at}
use Rattle.fx_cert.specs.Certificate.{Certificate}
use Rattle.fx_block.specs.Passes.{bound_at}
use Rattle.fx_error.specs.PartsOf.{whole_of}
use Rattle.fx_error.specs.declared.parts.Parts.{Parts}
use Rattle.fx_lines.specs.Verdict.{up_part}

-- ---- rows of the program

-- how far the greatest word of row i lies above its bound
abbrev pub spare : Code → Certificate → ℕ → ℤ
spare p c i = pos (2 ^ ((row_at p i).width - 1) - 1) -ℤ pos (bound_at c i)

abbrev pub row_line : Code → Certificate → ℕ → List ℕ
row_line p c i =
    codes "row " ++ decimal i ++ codes " width " ++ decimal (row_at p i).width ++ codes " bound "
    ++ decimal (bound_at c i) ++ codes " shift " ++ decimal (row_at p i).own.shift ++ codes " spare "
    ++ signed_decimal (spare p c i) ++ codes "\n"

abbrev pub row_lines : Code → Certificate → List ℕ
row_lines p c = joined (length p.rows) (row_line p c)

-- ---- outputs

-- the parts and their sum, each rounded up in the last place
abbrev pub first_parts : Parts → List ℕ
first_parts parts = up_part (codes " rounding ") parts.rounding ++ up_part (codes " difference ") parts.difference

abbrev pub last_parts : Parts → List ℕ
last_parts parts = up_part (codes " rest ") parts.rest ++ up_part (codes " total ") (whole_of parts)

abbrev pub parts_text : Parts → List ℕ
parts_text parts = first_parts parts ++ last_parts parts

-- them, and the error that is wanted, exactly
abbrev pub parts_line : ℕ → OutputFormat → Parts → List ℕ
parts_line o format parts =
    codes "output " ++ decimal o ++ parts_text parts ++ codes " target " ++ fraction_text format.error ++ codes "\n"

abbrev pub no_parts : Parts
no_parts = record { rounding = pos 0; difference = pos 0; rest = pos 0 }

-- the outputs from output o on
abbrev pub parts_lines : List Parts → ℕ → List OutputFormat → List ℕ
parts_lines parts o [] = []
parts_lines parts o (f ∷ fs) = parts_line o f (slice_index_or parts o no_parts) ++ parts_lines parts (o + 1) fs

-- ---- a report

-- the lines before those of the verdict
abbrev pub report_lines : Filter → Code → Certificate → List Parts → List ℕ
report_lines f p c parts = row_lines p c ++ parts_lines parts 0 f.outputs
