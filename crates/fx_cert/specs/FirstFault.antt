-- The first fault of a text, with no reader: what is wanted of each line, and the fault of a line that is another. The
-- counts of rows and of outputs are those that the text itself names. Lines are numbered from 1.
use Rattle.std.specs.Prelude.{ℕ, zero, suc, ◌+◌, not, List, [], ◌∷◌, ◌++◌, codes, Option, Some, None}
use Rattle.std.specs.Prelude.{option_and_then, Result, Ok, Err, if◌then◌else◌}
use Rattle.std.specs.Option.{option_or, unwrap_or}
use Rattle.std.specs.Str.{bytes_eq}
use Rattle.fx_math.specs.Faults.{fault_if}
use Rattle.fx_msb.specs.declared.widths.TheConstants.{GREATEST_BOUND}
use Rattle.fx_cert.specs.declared.fault.CertFault.{CertFault}
use Rattle.fx_cert.specs.declared.fault.CertFault.TheVariants.{Version, Line, Count, AfterEnd}
use Rattle.fx_cert.specs.declared.limits.TheConstants.{LEAST_LENGTH, GREATEST_LENGTH, GREATEST_ROWS}
use Rattle.fx_cert.specs.declared.limits.TheConstants.{GREATEST_OUTPUTS, GREATEST_ERROR}
use Rattle.fx_cert.specs.Certificate.{first_line}
use Rattle.fx_cert.specs.Lines.{TextLine}
use Rattle.fx_cert.specs.Reading.{begins, behind, number_behind, number_within}

-- the fault of what was read
abbrev pub fault_in : {A : Type 0} → Result A CertFault → Option CertFault
fault_in (Ok x) = None
fault_in (Err fault) = Some fault

-- no fault, or else the fault
abbrev pub passes : Option CertFault → Result (Unit {0}) CertFault
passes None = Ok tt
passes (Some fault) = Err fault

-- ---- the faults of an ended line n with this text

abbrev pub length_fault : ℕ → List ℕ → Option CertFault
length_fault n text = fault_in (number_behind n (codes "length ") LEAST_LENGTH GREATEST_LENGTH text)

abbrev pub rows_fault : ℕ → List ℕ → Option CertFault
rows_fault n text = fault_in (number_behind n (codes "rows ") 1 GREATEST_ROWS text)

-- where the bound of row i is wanted: there may be too few
abbrev pub bound_fault : ℕ → ℕ → ℕ → List ℕ → Option CertFault
bound_fault rows i n text =
    fault_if (begins (codes "outputs ") text) (Count n i rows)
    (fault_in (number_behind n (codes "X ") 0 GREATEST_BOUND text))

-- where the count of outputs is wanted: there may be one bound too many
abbrev pub outputs_fault : ℕ → ℕ → List ℕ → Option CertFault
outputs_fault rows n text =
    fault_if (begins (codes "X ") text) (Count n (rows + 1) rows)
    (fault_in (number_behind n (codes "outputs ") 1 GREATEST_OUTPUTS text))

-- where the error of output o is wanted: there may be too few
abbrev pub error_fault : ℕ → ℕ → ℕ → List ℕ → Option CertFault
error_fault outputs o n text =
    fault_if (bytes_eq text (codes "end")) (Count n o outputs)
    (fault_in (number_behind n (codes "E ") 0 GREATEST_ERROR text))

-- where the last line is wanted: there may be one error too many
abbrev pub end_fault : ℕ → ℕ → List ℕ → Option CertFault
end_fault outputs n text =
    fault_if (begins (codes "E ") text) (Count n (outputs + 1) outputs)
    (fault_if (not (bytes_eq text (codes "end"))) (Line n) None)

-- ---- all lines

-- what is wanted of so many lines, from number i on
abbrev pub each_wanted : (ℕ → ℕ → List ℕ → Option CertFault) → ℕ → ℕ → List (ℕ → List ℕ → Option CertFault)
each_wanted want zero i = []
each_wanted want (suc k) i = want i ∷ each_wanted want k (i + 1)

-- what is wanted of the lines behind line 1, with so many rows and outputs
abbrev pub wanted : ℕ → ℕ → List (ℕ → List ℕ → Option CertFault)
wanted rows outputs =
    length_fault ∷ rows_fault
    ∷ (each_wanted (bound_fault rows) rows 0 ++ outputs_fault rows ∷
    (each_wanted (error_fault outputs) outputs 0 ++ end_fault outputs ∷ []))

-- the first fault from line n on
unfoldable pub fault_from : ℕ → List (ℕ → List ℕ → Option CertFault) → List TextLine → Option CertFault
fault_from n [] [] = None
fault_from n [] (l ∷ ls) = Some AfterEnd
fault_from n (want ∷ wants) [] = Some (Line n)
fault_from n (want ∷ wants) (l ∷ ls) =
    if l.ended then option_or (want n l.text) (fault_from (n + 1) wants ls) else Some (Line n)

-- the text of the line behind so many
abbrev pub text_behind : ℕ → List TextLine → List ℕ
text_behind k [] = []
text_behind zero (l ∷ ls) = l.text
text_behind (suc k) (l ∷ ls) = text_behind k ls

-- the number that a line names behind a word; 0 where it names none
abbrev pub named : List ℕ → ℕ → List ℕ → ℕ
named word high text = unwrap_or (option_and_then (number_within 1 high) (behind word text)) 0

-- line 3 names the rows
abbrev pub rows_of : List TextLine → ℕ
rows_of lines = named (codes "rows ") GREATEST_ROWS (text_behind 2 lines)

-- line rows + 4 names the outputs
abbrev pub outputs_of : List TextLine → ℕ
outputs_of lines = named (codes "outputs ") GREATEST_OUTPUTS (text_behind (rows_of lines + 3) lines)

unfoldable pub first_fault : List TextLine → Option CertFault
first_fault [] = Some Version
first_fault (l ∷ ls) =
    fault_if (not (bytes_eq l.text first_line)) Version
    (fault_if (not l.ended) (Line 1) (fault_from 2 (wanted (rows_of (l ∷ ls)) (outputs_of (l ∷ ls))) ls))
