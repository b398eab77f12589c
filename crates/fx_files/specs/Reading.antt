-- The filter of a file, or its first fault.
use Rattle.std.specs.Prelude.{ℕ, List, length, Result, Ok}
use Rattle.toml.specs.Data.{Members}
use Rattle.fx_math.specs.Faults.{◌>>=◌}
use Rattle.fx_keys.specs.Table.{table_at}
use Rattle.fx_keys.specs.declared.fault.FilterFault.{FilterFault}
use Rattle.fx_files.specs.Building.{assembled}
use Rattle.fx_files.specs.Filter.{Filter}
use Rattle.fx_files.specs.Head.{head_in}
use Rattle.fx_files.specs.Lists.{coefficients_in}
use Rattle.fx_files.specs.Ports.{ports_in, single, outputs_fit}
use Rattle.fx_files.specs.Settings.{settings_in}

-- the parts of a table in their order, and then what they have to agree on
unfoldable pub filter_in : Members → Result Filter FilterFault
filter_in t = do
  form ← head_in t
  ports ← ports_in t
  coefficients ← coefficients_in form (length ports.inputs.formats) (length ports.outputs) t
  settings ← settings_in form t
  u ← single form (length ports.inputs.formats) (length ports.outputs)
  u ← outputs_fit ports.inputs.low settings.accumulator ports.outputs
  Ok (assembled ports coefficients settings)

unfoldable pub filter_of_bytes : List ℕ → Result Filter FilterFault
filter_of_bytes bytes = do
  t ← table_at bytes
  filter_in t
