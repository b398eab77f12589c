-- A filter of its parts.
use Rattle.std.specs.Prelude.{ℕ, ◌^◌, ℤ, pos, ◌*ℤ◌, List, [], ◌∷◌, length}
use Rattle.fx_math.specs.Division.{floor_div}
use Rattle.fx_nums.specs.Fraction.{Fraction, den_value}
use Rattle.fx_nums.specs.declared.limits.TheConstants.{SCALE_BITS}
use Rattle.fx_eqs.specs.Equations.{Equations}
use Rattle.fx_eqs.specs.Textbook.{tf_equations, sos_equations, ss_equations, lattice_equations}
use Rattle.fx_files.specs.Coefficients.{Coefficients, Tf, Sos, Ss, Lattice}
use Rattle.fx_files.specs.Filter.{Filter}
use Rattle.fx_files.specs.Ports.{Ports}
use Rattle.fx_files.specs.Settings.{Settings}
use Rattle.fx_files.specs.declared.formats.OutputEntry.{OutputEntry}
use Rattle.fx_files.specs.declared.formats.OutputFormat.{OutputFormat}

-- the equations of a form, with m inputs and p outputs
abbrev pub equations_of : ℕ → ℕ → Coefficients → Equations
equations_of m p (Tf b a) = tf_equations b a
equations_of m p (Sos sections) = sos_equations sections
equations_of m p (Ss n A B C D) = ss_equations n m p A B C D
equations_of m p (Lattice k v) = lattice_equations k v

-- an error at the scale 2 ^ -64, rounded down
abbrev pub target_of : Fraction → ℤ
target_of c = floor_div (c.num *ℤ pos (2 ^ SCALE_BITS)) (den_value c.den)

-- the outputs, each with the row that it puts out
unfoldable pub with_rows : List ℕ → List OutputEntry → List OutputFormat
with_rows (r ∷ rs) (o ∷ os) =
    record { row = r; width = o.width; low = o.low; error = o.error; target = target_of o.error } ∷ with_rows rs os
with_rows _ _ = []

-- the filter of these parts
unfoldable pub assembled : Ports → Coefficients → Settings → Filter
assembled ports coefficients settings =
    let equations = equations_of (length ports.inputs.formats) (length ports.outputs) coefficients in
    record {
      input_low = ports.inputs.low;
      inputs = ports.inputs.formats;
      outputs = with_rows equations.outputs ports.outputs;
      coefficients = coefficients;
      settings = settings;
      equations = equations;
    }
