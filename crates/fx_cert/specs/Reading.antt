-- What the lines of a text say: a certificate, or the first fault. Lines are numbered from 1; at one line the faults
-- come in the order in which they stand here.
use Rattle.std.specs.Prelude.{ℕ, zero, suc, ◌+◌, ◌*◌, ◌-◌, ◌==◌, ◌&&◌, Bool, true, false, not, nat_lt, nat_le}
use Rattle.std.specs.Prelude.{nat_eq, ℤ, pos, List, [], ◌∷◌, length, drop, codes, Option, Some, None}
use Rattle.std.specs.Prelude.{option_and_then, Result, Ok, Err, if◌then◌else◌}
use Rattle.std.specs.List.{starts_with}
use Rattle.std.specs.Str.{bytes_eq}
use Rattle.fx_math.specs.Faults.{◌>>=◌, or_fault, unless}
use Rattle.fx_msb.specs.declared.widths.TheConstants.{GREATEST_BOUND}
use Rattle.fx_cert.specs.declared.fault.CertFault.{CertFault}
use Rattle.fx_cert.specs.declared.fault.CertFault.TheVariants.{Version, Line, Number, Count, AfterEnd, NoMemory}
use Rattle.fx_cert.specs.declared.limits.TheConstants.{LEAST_LENGTH, GREATEST_LENGTH, GREATEST_ROWS}
use Rattle.fx_cert.specs.declared.limits.TheConstants.{GREATEST_OUTPUTS, GREATEST_ERROR}
use Rattle.fx_cert.specs.Certificate.{Certificate, first_line}
use Rattle.fx_cert.specs.Lines.{TextLine, are_none}

abbrev pub is_memory : CertFault → Bool
is_memory NoMemory = true
is_memory Version = false
is_memory (Line n) = false
is_memory (Number n) = false
is_memory (Count n got wanted) = false
is_memory AfterEnd = false

-- ---- numbers

abbrev pub is_digit : ℕ → Bool
is_digit c = nat_le 48 c && nat_le c 57

-- the number of digits behind those of v, where it is at most high
unfoldable pub value_within : ℕ → ℕ → List ℕ → Option ℕ
value_within high v [] = Some v
value_within high v (c ∷ cs) =
    if is_digit c && nat_le (10 * v + (c - 48)) high then value_within high (10 * v + (c - 48)) cs else None

-- there is a digit, and no zero before another
abbrev pub has_no_leading_zero : List ℕ → Bool
has_no_leading_zero [] = false
has_no_leading_zero (c ∷ []) = true
has_no_leading_zero (c ∷ d ∷ cs) = not (c == 48)

-- a number from low to high, in decimal without a sign and without leading zeros
unfoldable pub number_within : ℕ → ℕ → List ℕ → Option ℕ
number_within low high digits =
    if has_no_leading_zero digits
    then option_and_then (λ v. if nat_lt v low then None else Some v) (value_within high 0 digits)
    else None

-- ---- one line

-- the text of line n, where the line is there and ended, and the lines behind it
unfoldable pub ended_line : ℕ → List TextLine → Result (List ℕ × List TextLine) CertFault
ended_line n [] = Err (Line n)
ended_line n (l ∷ ls) = if l.ended then Ok (l.text, ls) else Err (Line n)

-- the line begins with this word
abbrev pub begins : List ℕ → List ℕ → Bool
begins word text = starts_with nat_eq text word

-- what stands behind a word
abbrev pub behind : List ℕ → List ℕ → Option (List ℕ)
behind word text = if begins word text then Some (drop (length word) text) else None

-- the number behind a word, the text of line n
unfoldable pub number_behind : ℕ → List ℕ → ℕ → ℕ → List ℕ → Result ℕ CertFault
number_behind n word low high text = do
  digits ← or_fault (Line n) (behind word text)
  or_fault (Number n) (number_within low high digits)

-- line n is a word and a number
unfoldable pub numbered_at : ℕ → List ℕ → ℕ → ℕ → List TextLine → Result (ℕ × List TextLine) CertFault
numbered_at n word low high lines = do
  line ← ended_line n lines
  number ← number_behind n word low high line.0
  Ok (number, line.1)

-- ---- the lines in their order

-- line 1
unfoldable pub behind_head : List TextLine → Result (List TextLine) CertFault
behind_head [] = Err Version
behind_head (l ∷ ls) = if bytes_eq l.text first_line then (if l.ended then Ok ls else Err (Line 1)) else Err Version

-- the bound of row i, of so many
unfoldable pub bound_at : ℕ → ℕ → List TextLine → Result (ℤ × List TextLine) CertFault
bound_at rows i lines = do
  line ← ended_line (i + 4) lines
  few ← unless (Count (i + 4) i rows) (not (begins (codes "outputs ") line.0))
  number ← number_behind (i + 4) (codes "X ") 0 GREATEST_BOUND line.0
  Ok (pos number, line.1)

-- the count of outputs, behind so many rows
unfoldable pub outputs_at : ℕ → List TextLine → Result (ℕ × List TextLine) CertFault
outputs_at rows lines = do
  line ← ended_line (rows + 4) lines
  many ← unless (Count (rows + 4) (rows + 1) rows) (not (begins (codes "X ") line.0))
  number ← number_behind (rows + 4) (codes "outputs ") 1 GREATEST_OUTPUTS line.0
  Ok (number, line.1)

-- the error of output o, of so many, behind so many rows
unfoldable pub error_at : ℕ → ℕ → ℕ → List TextLine → Result (ℤ × List TextLine) CertFault
error_at rows outputs o lines = do
  line ← ended_line (rows + o + 5) lines
  few ← unless (Count (rows + o + 5) o outputs) (not (bytes_eq line.0 (codes "end")))
  number ← number_behind (rows + o + 5) (codes "E ") 0 GREATEST_ERROR line.0
  Ok (pos number, line.1)

-- the last line, behind so many rows and outputs, and nothing behind it
unfoldable pub end_at : ℕ → ℕ → List TextLine → Result (Unit {0}) CertFault
end_at rows outputs lines = do
  line ← ended_line (rows + outputs + 5) lines
  many ← unless (Count (rows + outputs + 5) (outputs + 1) outputs) (not (begins (codes "E ") line.0))
  last ← unless (Line (rows + outputs + 5)) (bytes_eq line.0 (codes "end"))
  unless AfterEnd (are_none line.1)

-- the numbers of so many lines, from number i on
unfoldable pub each_at : (ℕ → List TextLine → Result (ℤ × List TextLine) CertFault) → ℕ → ℕ → List TextLine →
    Result (List ℤ × List TextLine) CertFault
each_at one zero i lines = Ok ([], lines)
each_at one (suc k) i lines = do
  first ← one i lines
  others ← each_at one k (i + 1) first.1
  Ok (first.0 ∷ others.0, others.1)

-- the lines up to that of the length
unfoldable pub length_in : List TextLine → Result (ℕ × List TextLine) CertFault
length_in lines = do
  head ← behind_head lines
  numbered_at 2 (codes "length ") LEAST_LENGTH GREATEST_LENGTH head

-- the lines of the rows
unfoldable pub bounds_in : List TextLine → Result (List ℤ × List TextLine) CertFault
bounds_in lines = do
  rows ← numbered_at 3 (codes "rows ") 1 GREATEST_ROWS lines
  each_at (bound_at rows.0) rows.0 0 rows.1

-- the lines of the outputs, behind so many rows, and the last line
unfoldable pub errors_in : ℕ → List TextLine → Result (List ℤ) CertFault
errors_in rows lines = do
  outputs ← outputs_at rows lines
  errors ← each_at (error_at rows outputs.0) outputs.0 0 outputs.1
  end ← end_at rows outputs.0 errors.1
  Ok errors.0

unfoldable pub certificate_in : List TextLine → Result Certificate CertFault
certificate_in lines = do
  len ← length_in lines
  bounds ← bounds_in len.1
  errors ← errors_in (length bounds.0) bounds.1
  Ok (record { length = len.0; bounds = bounds.0; errors = errors })
