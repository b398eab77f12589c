-- A program as it is read from left to right, with the first fault in the order of the text.
use Rattle.std.specs.Prelude.{ℕ, zero, suc, ◌+◌, ◌-◌, ◌^◌, ◌==◌, min, nat_le, ℤ, pos, Bool, true, false}
use Rattle.std.specs.Prelude.{List, [], ◌∷◌, ◌++◌, length, codes, Option, Some, None, option_map, Result, Ok}
use Rattle.std.specs.Prelude.{Err, if◌then◌else◌}
use Rattle.std.specs.Option.{option_or}
use Rattle.std.specs.List.{list_any}
use Rattle.std.specs.Str.{bytes_eq}
use Rattle.fx_math.specs.Words.{is_accumulator}
use Rattle.fx_math.specs.declared.words.TheConstants.{GREATEST_WIDTH, LEAST_WIDTH}
use Rattle.fx_eqs.specs.declared.limits.TheConstants.{PORTS}
use Rattle.fx_code.specs.declared.limits.TheConstants.{CODE_ROWS, COEFFICIENT_BITS, LONGEST_SHIFT}
use Rattle.fx_eqs.specs.declared.mode.Mode.{Mode}
use Rattle.fx_eqs.specs.declared.mode.Mode.TheVariants.{Nearest, Floor}
use Rattle.fx_code.specs.Code.{Row, Code, constant_in}
use Rattle.fx_code.specs.Limits.{same_source, start_fault, row_fault, output_fault}
use Rattle.fx_code.specs.declared.term.CodeTerm.{CodeTerm}
use Rattle.fx_code.specs.declared.term.Read.{Read}
use Rattle.fx_code.specs.declared.term.Read.TheVariants.{Now, Old, In}
use Rattle.fx_code.specs.declared.fault.LimitOf.TheVariants.{Accumulator, Inputs, Rows, Outputs, InputWidth}
use Rattle.fx_code.specs.declared.fault.LimitOf.TheVariants.{Width, Shift, Left, Coefficient}
use Rattle.fx_code.specs.declared.fault.ProgramFault.{ProgramFault}
use Rattle.fx_code.specs.declared.fault.ProgramFault.TheVariants as program
use Rattle.fx_text.specs.declared.fault.CodeFault.{CodeFault}
use Rattle.fx_text.specs.declared.fault.CodeFault.TheVariants.{Unexpected, Name, Order, Rounding, Limit, Twice}
use Rattle.fx_text.specs.declared.fault.CodeFault.TheVariants.{NoMemory}
use Rattle.fx_text.specs.declared.parts.Head.{Head}
use Rattle.fx_text.specs.declared.term.Place.{Place}
use Rattle.fx_text.specs.declared.term.Store.{Store}
use Rattle.fx_nums.specs.Signs.{signed}
use Rattle.fx_text.specs.Grammar.{shift_word}
use Rattle.fx_text.specs.Tokens.{begins, input_letter, is_letter, old_letter, row_letter}
use Rattle.fx_math.specs.Faults.{or_fault}
use Rattle.fx_math.specs.Faults.{◌>>=◌}
use Rattle.fx_text.specs.TokenReading.{repeated, is_nothing, token_at, expect_at, pair_at, first_line_at}
use Rattle.fx_text.specs.TokenReading.{number_at, next_at, index_at, name_number, due_at}

-- ---- the head

unfoldable pub accumulator_at : List ℕ → ℕ → Result (ℕ × ℕ) CodeFault
accumulator_at text at = do
  n ← number_at text at
  if is_accumulator n.0 then Ok n else Err (Limit Accumulator (pos n.0))

-- `STEP ( W , inputs , rows , outputs ) {`
unfoldable pub head_at : List ℕ → ℕ → Result (Head × ℕ) CodeFault
head_at text at = do
  a ← pair_at (codes "STEP") (codes "(") text at
  accumulator ← accumulator_at text a
  inputs ← next_at Inputs 1 PORTS text accumulator.1
  rows ← next_at Rows 1 CODE_ROWS text inputs.1
  outputs ← next_at Outputs 1 PORTS text rows.1
  b ← pair_at (codes ")") (codes "{") text outputs.1
  Ok (record { accumulator = accumulator.0; inputs = inputs.0; rows = rows.0; outputs = outputs.0 }, b)

-- ---- the inputs

-- `IN ( uJ , width ) ;`
unfoldable pub input_at : ℕ → List ℕ → ℕ → Result (ℕ × ℕ) CodeFault
input_at j text at = do
  a ← pair_at (codes "IN") (codes "(") text at
  b ← due_at input_letter j text a
  width ← next_at InputWidth LEAST_WIDTH GREATEST_WIDTH text b
  d ← pair_at (codes ")") (codes ";") text width.1
  Ok (width.0, d)

-- one more width, and the place after it
unfoldable pub input_more : List ℕ → List ℕ × ℕ → Result (List ℕ × ℕ) CodeFault
input_more text s = do
  width ← input_at (length s.0) text s.1
  Ok (s.0 ++ width.0 ∷ [], width.1)

abbrev pub inputs_at : ℕ → List ℕ → ℕ → Result (List ℕ × ℕ) CodeFault
inputs_at count text at = repeated count (input_more text) ([], at)

-- ---- a term

-- whether a `-` is next, and the place where the number is
unfoldable pub sign_at : List ℕ → ℕ → Result (Bool × ℕ) CodeFault
sign_at text at = do
  t ← token_at text at
  if bytes_eq t.1 (codes "-") then Ok (true, t.2) else Ok (false, at)

unfoldable pub coefficient_at : List ℕ → ℕ → Result (ℤ × ℕ) CodeFault
coefficient_at text at = do
  minus ← sign_at text at
  n ← number_at text minus.1
  if nat_le (2 ^ COEFFICIENT_BITS) n.0
      then Err (Limit Coefficient (signed minus.0 n.0))
      else Ok (signed minus.0 n.0, n.1)

-- the source of this name, its number below the count of rows or of inputs
unfoldable pub source_of : Place → List ℕ → Option Read
source_of place word =
    option_or (option_map Now (name_number row_letter place.rows word)) (
    option_or (option_map Old (name_number old_letter place.rows word)) (
    option_map In (name_number input_letter place.inputs word)))

-- a row of this moment from the reading one on
abbrev pub is_ahead : ℕ → Read → Bool
is_ahead row (Now i) = nat_le row i
is_ahead row (Old i) = false
is_ahead row (In j) = false

-- a source behind those of earlier terms, for which they are not refused
abbrev pub checked_source : ℕ → List CodeTerm → Read → ℕ → Result (Read × ℕ) CodeFault
checked_source row terms from at =
    if is_ahead row from then Err (Order row)
    else if list_any (λ (e : CodeTerm). same_source e.from from) terms then Err (Twice row)
    else Ok (from, at)

-- `, source`
unfoldable pub source_at : Place → List CodeTerm → List ℕ → ℕ → Result (Read × ℕ) CodeFault
source_at place terms text at = do
  b ← expect_at (codes ",") text at
  t ← token_at text b
  if begins is_letter t.1
      then (or_fault (Name t.0) (source_of place t.1) >>= λ from. checked_source place.row terms from t.2)
      else Err (Unexpected t.0)

-- `+= MUL ( coef , source , left ) ;`
unfoldable pub term_at : Place → List CodeTerm → List ℕ → ℕ → Result (CodeTerm × ℕ) CodeFault
term_at place terms text at = do
  a ← pair_at (codes "+=") (codes "MUL") text at
  b ← expect_at (codes "(") text a
  coef ← coefficient_at text b
  from ← source_at place terms text coef.1
  left ← next_at Left 0 LONGEST_SHIFT text from.1
  d ← pair_at (codes ")") (codes ";") text left.1
  Ok (record { coef = coef.0; from = from.0; left = left.0 }, d)

-- whether a term begins, and not the store, and the place after its name
unfoldable pub statement_at : ℕ → List ℕ → ℕ → Result (Bool × ℕ) CodeFault
statement_at row text at = do
  t ← token_at text at
  if bytes_eq t.1 (codes "a")
      then Ok (true, t.2)
      else (due_at row_letter row text at >>= λ b. Ok (false, b))

-- the terms up to the store, in so many turns, and the place after the store's name
unfoldable pub terms_within : ℕ → Place → List CodeTerm → List ℕ → ℕ → Result (List CodeTerm × ℕ) CodeFault
terms_within zero place terms text at = Err (Unexpected at)
terms_within (suc turns) place terms text at = do
  statement ← statement_at place.row text at
  if statement.0
      then (term_at place terms text statement.1 >>= λ t. terms_within turns place (terms ++ t.0 ∷ []) text t.1)
      else Ok (terms, statement.1)

-- the same with no bound: a term has bytes, so no row has more terms than the text has bytes
abbrev pub terms_at : Place → List CodeTerm → List ℕ → ℕ → Result (List CodeTerm × ℕ) CodeFault
terms_at place terms text at = terms_within (suc (length text)) place terms text at

-- ---- a row

-- `a = number ;`
unfoldable pub constant_at : List ℕ → ℕ → Result (ℕ × ℕ) CodeFault
constant_at text at = do
  a ← pair_at (codes "a") (codes "=") text at
  n ← number_at text a
  b ← expect_at (codes ";") text n.1
  Ok (n.0, b)

-- the mode that `SAR` or `FLR` stands for
unfoldable pub mode_at : List ℕ → ℕ → Result (Mode × ℕ) CodeFault
mode_at text at = do
  t ← token_at text at
  if bytes_eq t.1 (shift_word Nearest)
      then Ok (Nearest, t.2)
      else (if bytes_eq t.1 (shift_word Floor) then Ok (Floor, t.2) else Err (Unexpected t.0))

-- `= LOW ( SAR ( a` or `= LOW ( FLR ( a`
unfoldable pub store_begins_at : List ℕ → ℕ → Result (Mode × ℕ) CodeFault
store_begins_at text at = do
  a ← pair_at (codes "=") (codes "LOW") text at
  b ← expect_at (codes "(") text a
  mode ← mode_at text b
  c ← pair_at (codes "(") (codes "a") text mode.1
  Ok (mode.0, c)

-- `= LOW ( SAR ( a , shift ) , width ) ;`, or with `FLR`
unfoldable pub store_at : ℕ → List ℕ → ℕ → Result (Store × ℕ) CodeFault
store_at accumulator text at = do
  mode ← store_begins_at text at
  shift ← next_at Shift 0 (min LONGEST_SHIFT (accumulator - 1)) text mode.1
  b ← expect_at (codes ")") text shift.1
  width ← next_at Width LEAST_WIDTH (min GREATEST_WIDTH accumulator) text b
  d ← pair_at (codes ")") (codes ";") text width.1
  Ok (record { mode = mode.0; shift = shift.0; width = width.0 }, d)

-- a row of these terms with this store
abbrev pub stored_row : List CodeTerm → Store → Row
stored_row terms store =
    record { width = store.width; own = record { shift = store.shift; mode = store.mode; terms = terms } }

-- a program's fault, as the text's
abbrev pub fault_of : ProgramFault → CodeFault
fault_of (program.Limit what number) = Limit what number
fault_of (program.Order row) = Order row
fault_of (program.Twice row) = Twice row
fault_of program.NoMemory = NoMemory

-- a value where there is no fault
abbrev pub unless_fault : {A : Type 0} → Option ProgramFault → A → Result A CodeFault
unless_fault (Some fault) x = Err (fault_of fault)
unless_fault None x = Ok x

abbrev pub started : ℕ → List ℕ → Result Code CodeFault
started accumulator inputs =
    unless_fault (start_fault accumulator inputs)
    (record { accumulator = accumulator; inputs = inputs; rows = []; outputs = [] })

abbrev pub with_row : Code → Row → Result Code CodeFault
with_row p row = unless_fault (row_fault p row) (record p { rows = p.rows ++ row ∷ [] })

abbrev pub with_output : Code → ℕ → Result Code CodeFault
with_output p row = unless_fault (output_fault p row) (record p { outputs = p.outputs ++ row ∷ [] })

-- where the next row of a program stands
abbrev pub place_of : ℕ → Code → Place
place_of rows p = record { row = length p.rows; rows = rows; inputs = length p.inputs }

-- a row's constant is the one that its store demands
abbrev pub checked_constant : ℕ → ℕ → ℕ → Result (Unit {0}) CodeFault
checked_constant row got wanted = if got == wanted then Ok tt else Err (Rounding row (pos got) (pos wanted))

-- one more row, of so many in all
unfoldable pub row_more : ℕ → List ℕ → Code × ℕ → Result (Code × ℕ) CodeFault
row_more rows text s = do
  constant ← constant_at text s.1
  terms ← terms_at (place_of rows s.0) [] text constant.1
  store ← store_at s.0.accumulator text terms.1
  p ← with_row s.0 (stored_row terms.0 store.0)
  fits ← checked_constant (length s.0.rows) constant.0 (constant_in store.0.mode store.0.shift)
  Ok (p, store.1)

-- ---- the outputs and the words that are kept

-- `, rI` of a row below the count
unfoldable pub row_name_at : ℕ → List ℕ → ℕ → Result (ℕ × ℕ) CodeFault
row_name_at rows text at = do
  b ← expect_at (codes ",") text at
  t ← token_at text b
  if begins is_letter t.1
      then (or_fault (Name t.0) (name_number row_letter rows t.1) >>= λ i. Ok (i, t.2))
      else Err (Unexpected t.0)

-- `OUT ( J , rI ) ;`
unfoldable pub output_at : ℕ → ℕ → List ℕ → ℕ → Result (ℕ × ℕ) CodeFault
output_at j rows text at = do
  a ← pair_at (codes "OUT") (codes "(") text at
  b ← index_at j text a
  row ← row_name_at rows text b
  d ← pair_at (codes ")") (codes ";") text row.1
  Ok (row.0, d)

-- one more output
unfoldable pub output_more : List ℕ → Code × ℕ → Result (Code × ℕ) CodeFault
output_more text s = do
  row ← output_at (length s.0.outputs) (length s.0.rows) text s.1
  p ← with_output s.0 row.0
  Ok (p, row.1)

-- `sI = rI ;`, the number of the next row that is kept, and the place after it
unfoldable pub keep_more : List ℕ → ℕ × ℕ → Result (ℕ × ℕ) CodeFault
keep_more text s = do
  a ← due_at old_letter s.0 text s.1
  b ← expect_at (codes "=") text a
  c ← due_at row_letter s.0 text b
  d ← expect_at (codes ";") text c
  Ok (s.0 + 1, d)

-- `}`, and nothing behind it
unfoldable pub end_at : List ℕ → ℕ → Result (Unit {0}) CodeFault
end_at text at = do
  b ← expect_at (codes "}") text at
  t ← token_at text b
  if is_nothing t.1 then Ok tt else Err (Unexpected t.0)

-- ---- the program

-- what follows the head
unfoldable pub body_at : Head → List ℕ → ℕ → Result Code CodeFault
body_at head text at = do
  inputs ← inputs_at head.inputs text at
  p ← started head.accumulator inputs.0
  rows ← repeated head.rows (row_more head.rows text) (p, inputs.1)
  outputs ← repeated head.outputs (output_more text) rows
  kept ← repeated head.rows (keep_more text) (0, outputs.1)
  done ← end_at text kept.1
  Ok outputs.0

-- the program that the bytes spell
unfoldable pub code_in : List ℕ → Result Code CodeFault
code_in bytes = do
  a ← first_line_at bytes
  head ← head_at bytes a
  body_at head.0 bytes head.1
