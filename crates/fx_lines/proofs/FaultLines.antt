-- The lines of faults of code and of samples have no control byte before their line feed.
use Rattle.std.proofs.Common.{codes, decimal, refl}
use Rattle.std.specs.Fmt.{signed_decimal}
use Rattle.fx_code.specs.declared.fault.LimitOf.{LimitOf}
use Rattle.fx_code.specs.declared.fault.LimitOf.TheVariants as of
use Rattle.fx_sim.specs.declared.fault.SampleFault.TheVariants as sample
use Rattle.fx_text.specs.declared.fault.CodeFault.TheVariants as code
use Rattle.fx_lines.specs.CodeFault.{limit_name}
use Rattle.fx_lines.specs.Laws.{CodeFaultLine, SampleFaultLine}
use Rattle.fx_lines.proofs.PrintedParts.{Printed, decimal_printed, signed_printed, number_line, numbers_line}
use Rattle.fx_lines.proofs.PrintedParts.{three_line}

limit_printed : (which : LimitOf) → Printed (limit_name which)
limit_printed of.Accumulator = refl
limit_printed of.Inputs = refl
limit_printed of.Rows = refl
limit_printed of.Outputs = refl
limit_printed of.InputWidth = refl
limit_printed of.Width = refl
limit_printed of.Shift = refl
limit_printed of.Left = refl
limit_printed of.Coefficient = refl
limit_printed of.Product = refl
limit_printed of.Terms = refl
limit_printed of.OutputRow = refl

pub code_line : CodeFaultLine
code_line (code.Token at) there = number_line (codes "bad code token ") (decimal at) refl (decimal_printed at)
code_line (code.Unexpected at) there =
    number_line (codes "bad code unexpected ") (decimal at) refl (decimal_printed at)
code_line (code.Name at) there = number_line (codes "bad code name ") (decimal at) refl (decimal_printed at)
code_line (code.Order row) there = number_line (codes "bad code order ") (decimal row) refl (decimal_printed row)
code_line (code.Number at) there = number_line (codes "bad code number ") (decimal at) refl (decimal_printed at)
code_line (code.Rounding row got wanted) there =
    three_line (codes "bad code rounding ") (decimal row) (signed_decimal got) (signed_decimal wanted) refl
    (decimal_printed row) (signed_printed got) (signed_printed wanted)
code_line (code.Limit which got) there =
    numbers_line (codes "bad code limit ") (limit_name which) (signed_decimal got) refl (limit_printed which)
    (signed_printed got)
code_line (code.Twice row) there = number_line (codes "bad code twice ") (decimal row) refl (decimal_printed row)
code_line code.NoMemory there = absurd (there refl)

pub sample_line : SampleFaultLine
sample_line (sample.Columns moment got wanted) there =
    three_line (codes "bad samples columns ") (decimal moment) (decimal got) (decimal wanted) refl
    (decimal_printed moment) (decimal_printed got) (decimal_printed wanted)
sample_line (sample.Field moment column) there =
    numbers_line (codes "bad samples field ") (decimal moment) (decimal column) refl (decimal_printed moment)
    (decimal_printed column)
sample_line (sample.OutOfWord moment column value) there =
    three_line (codes "bad samples out of word ") (decimal moment) (decimal column) (signed_decimal value) refl
    (decimal_printed moment) (decimal_printed column) (signed_printed value)
sample_line sample.NoMemory there = absurd (there refl)
