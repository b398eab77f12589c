-- What every program keeps.
use Rattle.std.specs.Prelude.{ℕ, ◌+◌, ◌^◌, ◌<◌, ◌≤◌, IsTrue, unsigned_abs, length, All}
use Rattle.std.specs.List.{IsDistinct}
use Rattle.fx_math.specs.Words.{WidthFits, is_accumulator}
use Rattle.fx_eqs.specs.declared.limits.TheConstants.{PORTS}
use Rattle.fx_code.specs.Code.{Row, Code, row_at, weight}
use Rattle.fx_code.specs.Limits.{same_source, term_count}
use Rattle.fx_code.specs.declared.limits.TheConstants.{CODE_ROWS, CODE_TERMS, LONGEST_SHIFT, COEFFICIENT_BITS}
use Rattle.fx_code.specs.declared.limits.TheConstants.{PRODUCT_BITS}
use Rattle.fx_code.specs.declared.term.CodeTerm.{CodeTerm}
use Rattle.fx_code.specs.declared.term.Read.{Read}
use Rattle.fx_code.specs.declared.term.Read.TheVariants.{Now, Old, In}

-- a term of a row with this shift
pub record TermFits (shift : ℕ) (t : CodeTerm) : Type 0 where
  pub left : t.left ≤ LONGEST_SHIFT
  pub coefficient : unsigned_abs t.coef < 2 ^ COEFFICIENT_BITS
  pub product : unsigned_abs (weight t) < 2 ^ COEFFICIENT_BITS
  pub scaled : unsigned_abs (weight t) < 2 ^ (PRODUCT_BITS + shift)

-- a row over accumulators of this many bits
pub record RowFits (accumulator : ℕ) (row : Row) : Type 0 where
  pub width : WidthFits row.width
  pub width_kept : row.width ≤ accumulator
  pub shift_high : row.own.shift ≤ LONGEST_SHIFT
  pub shift_kept : row.own.shift < accumulator
  pub terms : All (TermFits row.own.shift) row.own.terms

-- a source of a term in row n, of a program with this many inputs
abbrev pub SourceFits : ℕ → ℕ → Read → Type 0
SourceFits n inputs (Now i) = i < n
SourceFits n inputs (Old i) = i < CODE_ROWS
SourceFits n inputs (In j) = j < inputs

-- what row n reads: earlier rows of this moment, rows of the moment before that a program may have, inputs that are
-- there; each source at most once
pub record ReadsFit (n inputs : ℕ) (row : Row) : Type 0 where
  pub sources : All (λ (t : CodeTerm). SourceFits n inputs t.from) row.own.terms
  pub once : IsDistinct (λ (e t : CodeTerm). same_source e.from t.from) row.own.terms

-- a program
pub record CodeFits (p : Code) : Type 0 where
  pub accumulator : IsTrue (is_accumulator p.accumulator)
  pub accumulator_low : 16 ≤ p.accumulator
  pub accumulator_high : p.accumulator ≤ 64
  pub inputs_low : 1 ≤ length p.inputs
  pub inputs_high : length p.inputs ≤ PORTS
  pub input_widths : All WidthFits p.inputs
  pub rows_high : length p.rows ≤ CODE_ROWS
  pub rows : All (RowFits p.accumulator) p.rows
  pub reads : (n : ℕ) → n < length p.rows → ReadsFit n (length p.inputs) (row_at p n)
  pub terms : term_count p.rows ≤ CODE_TERMS
  pub outputs_high : length p.outputs ≤ PORTS
  pub outputs : All (λ row. row < length p.rows) p.outputs
