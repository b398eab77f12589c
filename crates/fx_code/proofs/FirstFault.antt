-- The first fault is never want of memory, so the answer that carries it tells it.
use Rattle.std.proofs.Common.{◌≡◌, ℕ, ℤ, Bool, List, [], ◌∷◌, ◌++◌, Option, Some, None, refl}
use Rattle.std.specs.Option.{option_or}
use Rattle.fx_math.specs.Answers.{told}
use Rattle.fx_math.specs.Faults.{fault_if}
use Rattle.fx_math.proofs.Faults.{IsTold, none_told, if_told, or_told}
use Rattle.fx_code.specs.Code.{Row, Code}
use Rattle.fx_code.specs.Limits.{width_fault, start_fault, source_fault, term_fault, terms_fault, row_fault, is_memory}
use Rattle.fx_code.specs.declared.term.CodeTerm.{CodeTerm}
use Rattle.fx_code.specs.declared.term.Read.{Read}
use Rattle.fx_code.specs.declared.term.Read.TheVariants.{Now, Old, In}
use Rattle.fx_code.specs.declared.fault.LimitOf.{LimitOf}
use Rattle.fx_code.specs.declared.fault.ProgramFault.{ProgramFault}
use Rattle.fx_code.specs.declared.fault.ProgramFault.TheVariants.{Limit, Order, Twice}

no_fault : IsTold (told is_memory) None
no_fault = none_told (told is_memory)

limit_told : (test : Bool) (what : LimitOf) (number : ℤ) (rest : Option ProgramFault) →
    IsTold (told is_memory) rest → IsTold (told is_memory) (fault_if test (Limit what number) rest)
limit_told test what number rest r = if_told (told is_memory) test (Limit what number) rest refl r

order_told : (test : Bool) (n : ℕ) (rest : Option ProgramFault) → IsTold (told is_memory) rest →
    IsTold (told is_memory) (fault_if test (Order n) rest)
order_told test n rest r = if_told (told is_memory) test (Order n) rest refl r

twice_told : (test : Bool) (n : ℕ) (rest : Option ProgramFault) → IsTold (told is_memory) rest →
    IsTold (told is_memory) (fault_if test (Twice n) rest)
twice_told test n rest r = if_told (told is_memory) test (Twice n) rest refl r

either_first : (first rest : Option ProgramFault) → IsTold (told is_memory) first →
    IsTold (told is_memory) rest → IsTold (told is_memory) (option_or first rest)
either_first first rest f r = or_told (told is_memory) first rest f r

widths_first : (widths : List ℕ) → IsTold (told is_memory) (width_fault widths)
widths_first [] = no_fault
widths_first (w ∷ ws) = limit_told _ _ _ _ (widths_first ws)

source_first : (n inputs : ℕ) (from : Read) (rest : Option ProgramFault) → IsTold (told is_memory) rest →
    IsTold (told is_memory) (source_fault n inputs from rest)
source_first n inputs (Now i) rest r = limit_told _ _ _ _ (order_told _ _ _ r)
source_first n inputs (Old i) rest r = limit_told _ _ _ _ r
source_first n inputs (In j) rest r = limit_told _ _ _ _ r

term_first : (n inputs shift : ℕ) (earlier : List CodeTerm) (t : CodeTerm) →
    IsTold (told is_memory) (term_fault n inputs shift earlier t)
term_first n inputs shift earlier t =
    search (limit_told, source_first, twice_told, no_fault) depth 9

terms_first : (n inputs shift : ℕ) (earlier ts : List CodeTerm) →
    IsTold (told is_memory) (terms_fault n inputs shift earlier ts)
terms_first n inputs shift earlier [] = no_fault
terms_first n inputs shift earlier (t ∷ ts) =
    either_first _ _ (term_first n inputs shift earlier t) (terms_first n inputs shift (earlier ++ t ∷ []) ts)

start_first : (accumulator : ℕ) (inputs : List ℕ) → IsTold (told is_memory) (start_fault accumulator inputs)
start_first accumulator inputs = search (limit_told, widths_first)

row_first : (p : Code) (row : Row) → IsTold (told is_memory) (row_fault p row)
row_first p row = search (limit_told, either_first, terms_first, no_fault) depth 9

pub start-told : (accumulator : ℕ) (inputs : List ℕ) (fault : ProgramFault) →
    start_fault accumulator inputs ≡ Some fault → start_fault accumulator inputs ≡ told is_memory fault
start-told accumulator inputs = (start_first accumulator inputs).says

pub row-told : (p : Code) (row : Row) (fault : ProgramFault) → row_fault p row ≡ Some fault →
    row_fault p row ≡ told is_memory fault
row-told p row = (row_first p row).says
