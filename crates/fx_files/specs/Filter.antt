-- A filter, as contracts see it.
use Rattle.std.specs.Prelude.{ℤ, List}
use Rattle.fx_eqs.specs.Equations.{Equations}
use Rattle.fx_files.specs.Coefficients.{Coefficients}
use Rattle.fx_files.specs.Settings.{Settings}
use Rattle.fx_files.specs.declared.formats.InputFormat.{InputFormat}
use Rattle.fx_files.specs.declared.formats.OutputFormat.{OutputFormat}

-- the low position that the inputs share, the inputs and outputs, the coefficients of its form, what is to be tried in
-- making code, and its equations
pub record Filter : Type 0 where
  pub input_low : ℤ
  pub inputs : List InputFormat
  pub outputs : List OutputFormat
  pub coefficients : Coefficients
  pub settings : Settings
  pub equations : Equations
