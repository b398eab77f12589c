-- Designs: the rows of integer code before their widths are known.
use Rattle.std.specs.Prelude.{◌≡◌, ℕ, ◌+◌, ◌-◌, ◌<◌, ◌≤◌, IsTrue, List, [], ◌∷◌, length, All, sum_by, slice_index}
use Rattle.std.specs.Prelude.{slice_index_or}
use Rattle.fx_math.specs.Sums.{joined}
use Rattle.fx_math.specs.Words.{WidthFits, is_accumulator}
use Rattle.fx_eqs.specs.declared.limits.TheConstants.{PORTS}
use Rattle.fx_code.specs.Code.{BareRow, Row, Code, OldIsThere, row_at}
use Rattle.fx_code.specs.Fits.{TermFits, ReadsFit}
use Rattle.fx_code.specs.NetRows.{bare_at, bare_rows}
use Rattle.fx_code.specs.declared.limits.TheConstants.{CODE_ROWS, CODE_TERMS, LONGEST_SHIFT}
use Rattle.fx_code.specs.declared.term.CodeTerm.{CodeTerm}

-- the bits of the accumulators, how many inputs may be read, and the rows
pub record Quantised : Type 0 where
  pub accumulator : ℕ
  pub inputs : ℕ
  pub rows : List BareRow

-- ---- as a program

-- a row with its width
abbrev pub sized : ℕ → BareRow → Row
sized width row = record { width = width; own = row }

-- the first n rows with their widths
abbrev pub sized_rows : List ℕ → List BareRow → ℕ → List Row
sized_rows widths rows n = joined n (λ i. sized (slice_index widths i) (bare_at rows i) ∷ [])

-- so many places, the last of which is the last row
abbrev pub last_places : ℕ → ℕ → ℕ → List ℕ
last_places rows outputs n = joined n (λ o. (rows - outputs + o) ∷ [])

-- the rows with their widths; put out are the last of them, in their order
abbrev pub as_program : Quantised → ℕ → List ℕ → List ℕ → ℕ → Code
as_program d accumulator inputs widths outputs = record {
  accumulator = accumulator;
  inputs = inputs;
  rows = sized_rows widths d.rows (length d.rows);
  outputs = last_places (length d.rows) outputs outputs;
}

-- a program with the rows of a design: how wide each row is, and which rows are put out
pub record HasShape (d : Quantised) (widths : List ℕ) (outputs : ℕ) (p : Code) : Type 0 where
  pub rows_are : bare_rows p ≡ d.rows
  pub row_widths : (i : ℕ) → i < length d.rows → (row_at p i).width ≡ slice_index_or widths i 0
  pub output_count : length p.outputs ≡ outputs
  pub places : (o : ℕ) → o < outputs → slice_index_or p.outputs o 0 ≡ length d.rows - outputs + o

-- a width for each input that may be read and for each row, all within the limits; accumulators that are listed, no
-- shorter than those of the design
pub record WidthsFit (d : Quantised) (accumulator : ℕ) (inputs widths : List ℕ) : Type 0 where
  pub accumulator_listed : IsTrue (is_accumulator accumulator)
  pub accumulator_kept : d.accumulator ≤ accumulator
  pub inputs_count : length inputs ≡ d.inputs
  pub input_widths : All WidthFits inputs
  pub widths_count : length widths ≡ length d.rows
  pub row_widths : All WidthFits widths
  pub widths_kept : All (λ width. width ≤ accumulator) widths

-- so many rows may be put out
pub record OutputsFit (d : Quantised) (outputs : ℕ) : Type 0 where
  pub few : outputs ≤ PORTS
  pub there : outputs ≤ length d.rows

-- ---- a design that fits a program

-- a row over accumulators of so many bits
pub record BareFits (accumulator : ℕ) (row : BareRow) : Type 0 where
  pub shift_high : row.shift ≤ LONGEST_SHIFT
  pub shift_kept : row.shift < accumulator
  pub terms : All (TermFits row.shift) row.terms

-- how many terms there are over all rows
abbrev pub term_count : List BareRow → ℕ
term_count rows = sum_by (λ (row : BareRow). length row.terms) rows

-- rows that a program takes, whatever their widths; all that they read is there
pub record DesignFits (d : Quantised) : Type 0 where
  pub inputs_low : 1 ≤ d.inputs
  pub inputs_high : d.inputs ≤ PORTS
  pub rows_high : length d.rows ≤ CODE_ROWS
  pub rows : (i : ℕ) → i < length d.rows → BareFits d.accumulator (bare_at d.rows i)
  pub reads : (i : ℕ) → i < length d.rows → ReadsFit i d.inputs (sized 0 (bare_at d.rows i))
  pub there : (i : ℕ) → i < length d.rows →
      All (λ (t : CodeTerm). OldIsThere (length d.rows) t.from) (bare_at d.rows i).terms
  pub few : term_count d.rows ≤ CODE_TERMS
