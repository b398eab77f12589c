-- An implicit form as integer rows.
use Rattle.std.specs.Prelude.{ℕ, ◌+◌, ◌≤◌, Bool, true, false, ◌≡◌, IsTrue, List, length, replicate, All, ℤ}
use Rattle.std.specs.Prelude.{◌-ℤ◌, ◌≤ℤ◌, unsigned_abs, take, Result, Ok}
use Rattle.fx_math.specs.Faults.{◌>>=◌}
use Rattle.fx_math.specs.Words.{is_accumulator}
use Rattle.fx_code.specs.Code.{BareRow}
use Rattle.fx_net.specs.Net.{Net, empty_net}
use Rattle.fx_net.specs.Rows.{put_rows}
use Rattle.fx_sif.specs.Implicit.{Implicit, rows}
use Rattle.fx_sif.specs.Rows.{rows_of}
use Rattle.fx_sif.specs.declared.limits.TheConstants.{FORM_ROWS}
use Rattle.fx_quant.specs.Design.{Quantised}
use Rattle.fx_quant.specs.Positions.{Grid, grid}
use Rattle.fx_quant.specs.Rows.{kept_terms, quantised_row, first_rows}
use Rattle.fx_quant.specs.declared.fault.QuantFault.{QuantFault}
use Rattle.fx_quant.specs.declared.fault.QuantFault.TheVariants.{NoMemory}
use Rattle.fx_quant.specs.declared.formats.Formats.{Formats}
use Rattle.fx_quant.specs.declared.formats.TheConstants.{LEAST_LOW, GREATEST_LOW, LARGEST_GUARD, LEAST_FRACTION}
use Rattle.fx_quant.specs.declared.formats.TheConstants.{GREATEST_FRACTION, LOWS_APART}

-- the rows of a net that has the form's, on a grid, or the first fault
abbrev pub net_rows : Formats → Grid → Net → ℕ → ℕ → Result (List BareRow) QuantFault
net_rows formats g net count inputs =
    first_rows (λ i. quantised_row formats i (kept_terms g net count inputs i)) count

-- a net that has the form's rows first
abbrev pub form_net : Implicit → Net
form_net f = put_rows (rows_of f) 0 (empty_net FORM_ROWS)

-- the rows of the form, with a guard for each intermediate variable and each state
abbrev pub quantised : Implicit → Formats → List ℕ → ℕ → Result Quantised QuantFault
quantised f formats guards fraction =
    net_rows formats (grid formats guards f.sizes.y fraction) (form_net f) (rows f.sizes) f.sizes.u
    >>= λ rows. Ok (record { accumulator = formats.accumulator; inputs = f.sizes.u; rows = rows })

-- a design for these accumulators that reads the form's inputs and has its rows
pub record HasSizes (f : Implicit) (formats : Formats) (d : Quantised) : Type 0 where
  pub accumulator : d.accumulator ≡ formats.accumulator
  pub inputs : d.inputs ≡ f.sizes.u
  pub rows : length d.rows ≡ rows f.sizes

-- the same guard for each
abbrev pub equal_guards : Implicit → ℕ → List ℕ
equal_guards f guard = replicate (f.sizes.t + f.sizes.x) guard

-- ---- what is asked

abbrev pub LowFits : ℤ → Type 0
LowFits low = (LEAST_LOW ≤ℤ low) × (low ≤ℤ GREATEST_LOW)

-- accumulators that are listed, low positions in their range, those of the outputs not far from those of the inputs
pub record FormatsFit (outputs : ℕ) (f : Formats) : Type 0 where
  pub accumulator : IsTrue (is_accumulator f.accumulator)
  pub input_low : LowFits f.input_low
  pub lows : All LowFits (take outputs f.lows)
  pub near : All (λ low. unsigned_abs (low -ℤ f.input_low) ≤ LOWS_APART) (take outputs f.lows)

pub record FractionFits (fraction : ℕ) : Type 0 where
  pub low : LEAST_FRACTION ≤ fraction
  pub high : fraction ≤ GREATEST_FRACTION

abbrev pub IsGuard : ℕ → Type 0
IsGuard guard = guard ≤ LARGEST_GUARD

-- ---- an answer

-- memory was refused
abbrev pub is_memory : QuantFault → Bool
is_memory NoMemory = true
is_memory _ = false
