-- The tables of a net by name.
use Rattle.std.specs.Prelude.{ℕ}
use Rattle.fx_nums.specs.Fraction.{Fraction}
use Rattle.fx_eqs.specs.declared.limits.TheConstants.{PORTS}
use Rattle.fx_net.specs.declared.net.Which.{Which}
use Rattle.fx_net.specs.declared.net.Which.TheVariants.{Now, Old, In}
use Rattle.fx_net.specs.Net.{Net}

-- the coefficients of a table, by row and source
abbrev pub coefficients : Net → Which → ℕ → ℕ → Fraction
coefficients net Now = net.now
coefficients net Old = net.old
coefficients net In = net.input

-- how many sources there are, in a net of so many rows
abbrev pub source_count : ℕ → Which → ℕ
source_count rows Now = rows
source_count rows Old = rows
source_count rows In = PORTS
