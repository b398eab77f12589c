-- What every equation system keeps.
use Rattle.std.specs.Prelude.{◌≡◌, ℕ, ◌<◌, ◌≤◌, true, ⊤, length, All}
use Rattle.std.specs.List.{IsDistinct}
use Rattle.fx_eqs.specs.Equations.{Equations, is_kept}
use Rattle.fx_eqs.specs.Faults.{is_same_read}
use Rattle.fx_eqs.specs.Lags.{net_rows}
use Rattle.fx_eqs.specs.declared.limits.TheConstants.{PORTS, NET_ROWS, EQUATION_TERMS, LONGEST_LAG}
use Rattle.fx_eqs.specs.declared.term.Source.{Source}
use Rattle.fx_eqs.specs.declared.term.Source.TheVariants.{Row, In}
use Rattle.fx_eqs.specs.declared.term.Term.{Term}

-- a source of a system with so many rows and inputs
abbrev pub SourceFits : ℕ → ℕ → Source → Type 0
SourceFits rows inputs (Row j) = j < rows
SourceFits rows inputs (In j) = j < inputs

-- what a row reads at lag 0 is an earlier row or an input
abbrev pub IsThereByThen : ℕ → Source → ℕ → Type 0
IsThereByThen row (Row j) lag = lag ≡ 0 → j < row
IsThereByThen row (In j) lag = ⊤

-- a term of a system with so many rows and inputs
pub record TermFits (rows inputs : ℕ) (t : Term) : Type 0 where
  pub coefficient : is_kept t ≡ true
  pub row : t.row < rows
  pub source : SourceFits rows inputs t.from
  pub lag : t.lag ≤ LONGEST_LAG
  pub causal : IsThereByThen t.row t.from t.lag

-- a system
pub record EquationsFit (s : Equations) : Type 0 where
  pub rows_low : 1 ≤ s.rows
  pub net_high : net_rows s.rows s.inputs s.terms ≤ NET_ROWS
  pub inputs_low : 1 ≤ s.inputs
  pub inputs_high : s.inputs ≤ PORTS
  pub terms_high : length s.terms ≤ EQUATION_TERMS
  pub terms : All (TermFits s.rows s.inputs) s.terms
  pub once : IsDistinct (λ (e t : Term). is_same_read t e) s.terms
  pub outputs_low : 1 ≤ length s.outputs
  pub outputs_high : length s.outputs ≤ PORTS
  pub outputs : All (λ o. o < s.rows) s.outputs
