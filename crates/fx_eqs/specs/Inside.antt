-- The fields of a system, as the equation system that contracts see.
use Rattle.std.specs.Prelude.{◌≡◌}
use Rattle.fx_eqs.specs.Equations.{Equations}
use Rattle.fx_eqs.specs.Fits.{EquationsFit}
use Rattle.fx_eqs.specs.Lags.{net_rows}
use Rattle.fx_eqs.specs.declared.system.Eqs.TheInside.{Inside}

abbrev pub equations_of : Inside → Equations
equations_of s = record { rows = s.rows; inputs = s.inputs; terms = s.terms.items; outputs = s.outputs.items }

-- the limits, and the count of the net's rows
pub record IsKept (s : Inside) : Type 0 where
  pub fits : EquationsFit (equations_of s)
  pub net : s.net_rows ≡ net_rows s.rows s.inputs s.terms.items
