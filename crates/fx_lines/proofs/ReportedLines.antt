-- The lines of a report have no control byte before their line feeds.
use Rattle.std.proofs.Common.{◌+◌, ℕ, List, [], ◌∷◌, ◌++◌, length, codes, decimal, refl}
use Rattle.std.specs.Fmt.{signed_decimal}
use Rattle.std.specs.Prelude.{slice_index_or}
use Rattle.fx_cert.specs.Certificate.{Certificate}
use Rattle.fx_code.specs.Code.{Code, row_at}
use Rattle.fx_decimal.specs.Printed.{fraction_text}
use Rattle.fx_error.specs.PartsOf.{whole_of}
use Rattle.fx_error.specs.declared.parts.Parts.{Parts}
use Rattle.fx_files.specs.declared.formats.OutputFormat.{OutputFormat}
use Rattle.fx_block.specs.Passes.{bound_at}
use Rattle.fx_lines.specs.Laws.{AreLines, IsLine, ReportLines}
use Rattle.fx_lines.specs.Report.{first_parts, last_parts, no_parts, parts_line, parts_lines, parts_text, row_line}
use Rattle.fx_lines.specs.Report.{row_lines, spare}
use Rattle.fx_lines.specs.Verdict.{up_part}
use Rattle.fx_lines.proofs.AreLines.{joined_lines, lines_then}
use Rattle.fx_lines.proofs.PrintedParts.{Printed, both_printed, decimal_printed, fraction_printed, line_of}
use Rattle.fx_lines.proofs.PrintedParts.{numbered, part_printed, signed_printed}

-- words and a number behind a text
behind : (front words : List ℕ) (n : ℕ) → Printed front → Printed words → Printed (front ++ words ++ decimal n)
behind front words n first second =
    both_printed (front ++ words) (decimal n) (both_printed front words first second) (decimal_printed n)

row_is_line : (p : Code) (c : Certificate) (i : ℕ) → IsLine (row_line p c i)
row_is_line p c i =
    let named = codes "row " ++ decimal i in
    let wide = named ++ codes " width " ++ decimal (row_at p i).width in
    let bound = wide ++ codes " bound " ++ decimal (bound_at c i) in
    let shifted = bound ++ codes " shift " ++ decimal (row_at p i).own.shift in
    let spared = shifted ++ codes " spare " in
    let a = behind named (codes " width ") (row_at p i).width (numbered (codes "row ") i refl) refl in
    let b = behind wide (codes " bound ") (bound_at c i) a refl in
    let d = behind bound (codes " shift ") (row_at p i).own.shift b refl in
    line_of (spared ++ signed_decimal (spare p c i))
    (both_printed spared (signed_decimal (spare p c i)) (both_printed shifted (codes " spare ") d refl)
    (signed_printed (spare p c i)))

parts_printed : (parts : Parts) → Printed (parts_text parts)
parts_printed parts =
    let rounding = up_part (codes " rounding ") parts.rounding in
    let difference = up_part (codes " difference ") parts.difference in
    let rest = up_part (codes " rest ") parts.rest in
    let total = up_part (codes " total ") (whole_of parts) in
    both_printed (first_parts parts) (last_parts parts)
    (both_printed rounding difference (part_printed (codes " rounding ") parts.rounding refl)
    (part_printed (codes " difference ") parts.difference refl))
    (both_printed rest total (part_printed (codes " rest ") parts.rest refl)
    (part_printed (codes " total ") (whole_of parts) refl))

output_is_line : (o : ℕ) (f : OutputFormat) (parts : Parts) → IsLine (parts_line o f parts)
output_is_line o f parts =
    let named = codes "output " ++ decimal o in
    let divided = named ++ parts_text parts in
    let aimed = divided ++ codes " target " in
    let a = both_printed named (parts_text parts) (numbered (codes "output ") o refl) (parts_printed parts) in
    line_of (aimed ++ fraction_text f.error)
    (both_printed aimed (fraction_text f.error) (both_printed divided (codes " target ") a refl)
    (fraction_printed f.error))

outputs_are_lines : (parts : List Parts) (o : ℕ) (fs : List OutputFormat) →
    AreLines (length fs) (parts_lines parts o fs)
outputs_are_lines parts o [] = refl
outputs_are_lines parts o (f ∷ fs) =
    let own = slice_index_or parts o no_parts in (
      parts_line o f own,
      (
        parts_lines parts (o + 1) fs,
        (
          refl,
          (output_is_line o f own, outputs_are_lines parts (o + 1) fs),
        ),
      ),
    )

pub report : ReportLines
report f p c parts =
    lines_then (length p.rows) (length f.outputs) (row_lines p c) (parts_lines parts 0 f.outputs)
    (joined_lines (length p.rows) (row_line p c) (row_is_line p c)) (outputs_are_lines parts 0 f.outputs)
