-- A program's fields, as the program that contracts see.
use Rattle.std.specs.Prelude.{◌≡◌, ℕ, map, All}
use Rattle.fx_code.specs.Code.{Row, Code, OldIsThere}
use Rattle.fx_code.specs.Fits.{CodeFits}
use Rattle.fx_code.specs.Limits.{term_count}
use Rattle.fx_code.specs.declared.term.CodeTerm.{CodeTerm}
use Rattle.fx_code.specs.declared.program.ProgramRow.{ProgramRow}
use Rattle.fx_code.specs.declared.program.Program.TheInside.{Inside}

abbrev pub row_of : ProgramRow → Row
row_of r = record { width = r.width; own = record { shift = r.shift; mode = r.mode; terms = r.terms.items } }

-- the rows of the moment before that a row reads are among so many
abbrev pub RowReadsFit : ℕ → ProgramRow → Type 0
RowReadsFit count r = All (λ (t : CodeTerm). OldIsThere count t.from) r.terms.items

abbrev pub code_of : Inside → Code
code_of p = record {
  accumulator = p.accumulator;
  inputs = p.inputs.items;
  rows =
      map row_of p.rows.items;
  outputs = p.outputs.items;
}

-- the limits, and the count of terms
pub record IsKept (p : Inside) : Type 0 where
  pub fits : CodeFits (code_of p)
  pub count : p.terms ≡ term_count (code_of p).rows
