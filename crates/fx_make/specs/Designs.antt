-- Rows for a filter.
use Rattle.std.specs.Prelude.{◌≡◌, ◌≤◌, length}
use Rattle.fx_nums.specs.Fraction.{FractionFits}
use Rattle.fx_files.specs.Filter.{Filter}
use Rattle.fx_files.specs.declared.formats.OutputFormat.{OutputFormat}
use Rattle.fx_quant.specs.Design.{DesignFits, Quantised}

-- rows that a program takes, over the accumulators and the inputs of a filter, with a row for each of its outputs
pub record AreRowsOf (f : Filter) (d : Quantised) : Type 0 where
  pub accumulator : d.accumulator ≡ f.settings.accumulator
  pub inputs : d.inputs ≡ length f.inputs
  pub outputs : length f.outputs ≤ length d.rows
  pub fits : DesignFits d

-- the limits of the error that is wanted of an output
abbrev pub ErrorFits : OutputFormat → Type 0
ErrorFits o = FractionFits o.error.num o.error.den
