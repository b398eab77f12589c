-- The first fault of an equation system.
use Rattle.std.specs.Prelude.{ℕ, nat_lt, nat_le, ◌==◌, Bool, true, false, ◌&&◌, ◌||◌, cond, List, [], ◌∷◌, ◌++◌}
use Rattle.std.specs.Prelude.{length, Option, None}
use Rattle.std.specs.Option.{option_or}
use Rattle.std.specs.List.{list_any}
use Rattle.fx_math.specs.Faults.{fault_if}
use Rattle.fx_eqs.specs.Equations.{is_kept, kept}
use Rattle.fx_eqs.specs.Lags.{same_source, net_rows}
use Rattle.fx_eqs.specs.declared.limits.TheConstants.{NET_ROWS, EQUATION_TERMS, LONGEST_LAG}
use Rattle.fx_eqs.specs.declared.term.Source.{Source}
use Rattle.fx_eqs.specs.declared.term.Source.TheVariants.{Row, In}
use Rattle.fx_eqs.specs.declared.term.Term.{Term}
use Rattle.fx_eqs.specs.declared.fault.EqsFault.{EqsFault}
use Rattle.fx_eqs.specs.declared.fault.EqsFault.TheVariants.{ForwardNow, RowRange, InputRange, LagRange}
use Rattle.fx_eqs.specs.declared.fault.EqsFault.TheVariants.{TooManyTerms, TooManyRows, Twice, NoMemory}

-- ---- one term

-- the source is a row or an input that is there
abbrev pub source_fault : ℕ → ℕ → ℕ → Source → Option EqsFault → Option EqsFault
source_fault rows inputs place (Row j) rest = fault_if (nat_le rows j) (RowRange place) rest
source_fault rows inputs place (In j) rest = fault_if (nat_le inputs j) (InputRange place) rest

-- so are the term's row and its source
abbrev pub range_fault : ℕ → ℕ → ℕ → Term → Option EqsFault → Option EqsFault
range_fault rows inputs place t rest =
    fault_if (nat_le rows t.row) (RowRange place) (source_fault rows inputs place t.from rest)

-- a row at lag 0 that is not an earlier one
abbrev pub is_forward_read : ℕ → Source → ℕ → Bool
is_forward_read row (Row j) lag = lag == 0 && nat_le row j
is_forward_read row (In j) lag = false

abbrev pub is_forward : Term → Bool
is_forward t = is_forward_read t.row t.from t.lag

-- the same row, source and lag
abbrev pub is_same_read : Term → Term → Bool
is_same_read t e = e.row == t.row && (same_source e.from t.from && e.lag == t.lag)

-- of one term behind earlier ones; the count of these is its place
abbrev pub kept_term_fault : ℕ → ℕ → List Term → Term → Option EqsFault
kept_term_fault rows inputs earlier t =
    let place = length earlier in
    range_fault rows inputs place t (
    fault_if (nat_lt LONGEST_LAG t.lag) (LagRange place) (
    fault_if (is_forward t) (ForwardNow place) (
    fault_if (list_any (is_same_read t) (kept earlier)) (Twice place) None)))

-- a term with coefficient 0 has none
abbrev pub term_fault : ℕ → ℕ → List Term → Term → Option EqsFault
term_fault rows inputs earlier t = cond (is_kept t) (kept_term_fault rows inputs earlier t) None

-- ---- the system

-- the first, term by term
abbrev pub terms_fault : ℕ → ℕ → List Term → List Term → Option EqsFault
terms_fault rows inputs earlier [] = None
terms_fault rows inputs earlier (t ∷ ts) =
    option_or (term_fault rows inputs earlier t) (terms_fault rows inputs (earlier ++ t ∷ []) ts)

-- then of the counts
abbrev pub eqs_fault : ℕ → ℕ → List Term → Option EqsFault
eqs_fault rows inputs terms =
    let count = length (kept terms) in
    let net = net_rows rows inputs (kept terms) in
    option_or (terms_fault rows inputs [] terms) (
    fault_if (nat_lt EQUATION_TERMS count) (TooManyTerms count) (
    fault_if (rows == 0 || nat_lt NET_ROWS net) (TooManyRows net) None))

-- ---- an answer

-- only want of memory
abbrev pub is_memory : EqsFault → Bool
is_memory NoMemory = true
is_memory _ = false
