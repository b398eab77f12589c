-- The first fault of each part that is to be added to a program.
use Rattle.std.specs.Prelude.{ℕ, ◌+◌, ◌-◌, ◌^◌, min, nat_lt, nat_le, ◌==◌, pos, unsigned_abs, Bool, true, false}
use Rattle.std.specs.Prelude.{not, ◌||◌, List, [], ◌∷◌, ◌++◌, length, sum_by, Option, None}
use Rattle.std.specs.Option.{option_or}
use Rattle.std.specs.List.{list_any}
use Rattle.fx_math.specs.Faults.{fault_if}
use Rattle.fx_math.specs.Words.{is_accumulator}
use Rattle.fx_math.specs.declared.words.TheConstants.{LEAST_WIDTH, GREATEST_WIDTH}
use Rattle.fx_eqs.specs.declared.limits.TheConstants.{PORTS}
use Rattle.fx_code.specs.Code.{Row, Code, weight}
use Rattle.fx_code.specs.declared.limits.TheConstants.{CODE_ROWS, CODE_TERMS, LONGEST_SHIFT, COEFFICIENT_BITS}
use Rattle.fx_code.specs.declared.limits.TheConstants.{PRODUCT_BITS}
use Rattle.fx_code.specs.declared.term.CodeTerm.{CodeTerm}
use Rattle.fx_code.specs.declared.term.Read.{Read}
use Rattle.fx_code.specs.declared.term.Read.TheVariants.{Now, Old, In}
use Rattle.fx_code.specs.declared.fault.LimitOf.TheVariants.{Accumulator, Inputs, Rows, Outputs, InputWidth}
use Rattle.fx_code.specs.declared.fault.LimitOf.TheVariants.{Width, Shift, Left, Coefficient, Product, Terms}
use Rattle.fx_code.specs.declared.fault.LimitOf.TheVariants.{OutputRow}
use Rattle.fx_code.specs.declared.fault.ProgramFault.{ProgramFault}
use Rattle.fx_code.specs.declared.fault.ProgramFault.TheVariants.{Limit, Order, Twice, NoMemory}

-- n is below low or above high
abbrev pub is_outside : ℕ → ℕ → ℕ → Bool
is_outside low high n = nat_lt n low || nat_lt high n

-- ---- the start

abbrev pub width_fault : List ℕ → Option ProgramFault
width_fault [] = None
width_fault (w ∷ ws) = fault_if (is_outside LEAST_WIDTH GREATEST_WIDTH w) (Limit InputWidth (pos w)) (width_fault ws)

abbrev pub start_fault : ℕ → List ℕ → Option ProgramFault
start_fault accumulator inputs =
    fault_if (not (is_accumulator accumulator)) (Limit Accumulator (pos accumulator)) (
    fault_if (is_outside 1 PORTS (length inputs)) (Limit Inputs (pos (length inputs))) (
    width_fault inputs))

-- ---- a row

-- the same source
abbrev pub same_source : Read → Read → Bool
same_source (Now i) (Now j) = i == j
same_source (Old i) (Old j) = i == j
same_source (In i) (In j) = i == j
same_source _ _ = false

-- of the source of a term in row n, of a program with this many inputs
abbrev pub source_fault : ℕ → ℕ → Read → Option ProgramFault → Option ProgramFault
source_fault n inputs (Now i) rest =
    fault_if (nat_le CODE_ROWS i) (Limit Rows (pos i)) (fault_if (nat_le n i) (Order n) rest)
source_fault n inputs (Old i) rest = fault_if (nat_le CODE_ROWS i) (Limit Rows (pos i)) rest
source_fault n inputs (In j) rest = fault_if (nat_le inputs j) (Limit Inputs (pos j)) rest

-- of one term behind earlier ones, in row n with this shift
abbrev pub term_fault : ℕ → ℕ → ℕ → List CodeTerm → CodeTerm → Option ProgramFault
term_fault n inputs shift earlier t =
    fault_if (nat_lt LONGEST_SHIFT t.left) (Limit Left (pos t.left)) (
    fault_if (nat_le (2 ^ COEFFICIENT_BITS) (unsigned_abs t.coef)) (Limit Coefficient t.coef) (
    source_fault n inputs t.from (
    fault_if (list_any (λ e. same_source e.from t.from) earlier) (Twice n) (
    fault_if (nat_le (2 ^ COEFFICIENT_BITS) (unsigned_abs (weight t))
    || nat_le (2 ^ (PRODUCT_BITS + shift)) (unsigned_abs (weight t))) (Limit Product (weight t)) None))))

-- the first, term by term
abbrev pub terms_fault : ℕ → ℕ → ℕ → List CodeTerm → List CodeTerm → Option ProgramFault
terms_fault n inputs shift earlier [] = None
terms_fault n inputs shift earlier (t ∷ ts) =
    option_or (term_fault n inputs shift earlier t) (terms_fault n inputs shift (earlier ++ t ∷ []) ts)

-- how many terms there are over all rows
abbrev pub term_count : List Row → ℕ
term_count rows = sum_by (λ (row : Row). length row.own.terms) rows

abbrev pub row_fault : Code → Row → Option ProgramFault
row_fault p row =
    let n = length p.rows in
    let terms = term_count p.rows + length row.own.terms in
    fault_if (nat_lt CODE_ROWS (n + 1)) (Limit Rows (pos (n + 1))) (
    fault_if (is_outside LEAST_WIDTH (min GREATEST_WIDTH p.accumulator) row.width) (Limit Width (pos row.width)) (
    fault_if (nat_lt (min LONGEST_SHIFT (p.accumulator - 1)) row.own.shift) (Limit Shift (pos row.own.shift)) (
    option_or (terms_fault n (length p.inputs) row.own.shift [] row.own.terms) (
    fault_if (nat_lt CODE_TERMS terms) (Limit Terms (pos terms)) None))))

-- ---- an output

abbrev pub output_fault : Code → ℕ → Option ProgramFault
output_fault p row =
    let n = length p.outputs + 1 in
    fault_if (nat_lt PORTS n) (Limit Outputs (pos n)) (
    fault_if (nat_le (length p.rows) row) (Limit OutputRow (pos row)) None)

-- ---- an answer

-- want of memory is no fault of a program
abbrev pub is_memory : ProgramFault → Bool
is_memory NoMemory = true
is_memory (Limit what number) = false
is_memory (Order n) = false
is_memory (Twice n) = false
