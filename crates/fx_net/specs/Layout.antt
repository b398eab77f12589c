-- Where the rows of an equation system's net stand.
use Rattle.std.specs.Prelude.{◌≡◌, ℕ, ◌<◌, ◌≤◌, List, length, slice_index_or}
use Rattle.fx_eqs.specs.Equations.{Equations}
use Rattle.fx_eqs.specs.Expanded.{NetRead, input_hold_place, row_place, row_hold_place, expanded}
use Rattle.fx_eqs.specs.Expanded.NetRead.{Now, Old, In}
use Rattle.fx_eqs.specs.Fits.{SourceFits}
use Rattle.fx_eqs.specs.Lags.{greatest_lag}
use Rattle.fx_eqs.specs.declared.term.Source.{Source}
use Rattle.fx_eqs.specs.declared.limits.TheConstants.{PORTS, NET_ROWS}
use Rattle.fx_net.specs.declared.layout.Read.{Read}
use Rattle.fx_net.specs.declared.layout.Read.TheVariants.{Now as NowRow, Old as OldRow, In as Input}

-- what a row reads, as the expanded rows say it
abbrev pub read_of : Read → NetRead
read_of (NowRow j) = Now j
read_of (OldRow j) = Old j
read_of (Input j) = In j

-- the first row that holds each input, the first row of the equations, and the first that holds each row; all in few
-- rows
pub record ArePlaces (s : Equations) (holds_input : List ℕ) (first : ℕ) (holds_row : List ℕ) : Type 0 where
  pub inputs : (j : ℕ) → j < s.inputs → slice_index_or holds_input j 0 ≡ input_hold_place s j
  pub equations : first ≡ row_place s 0
  pub inputs_high : s.inputs ≤ PORTS
  pub few : length (expanded s) ≤ NET_ROWS
  pub rows : (j : ℕ) → j < s.rows → slice_index_or holds_row j 0 ≡ row_hold_place s j

-- a source of the system, at a lag at which some term reads it
pub record IsRead (s : Equations) (from : Source) (at_lag : ℕ) : Type 0 where
  pub source : SourceFits s.rows s.inputs from
  pub lag : at_lag ≤ greatest_lag from s.terms
