-- The inputs and outputs of a file.
use Rattle.std.specs.Prelude.{ℕ, ◌+◌, ◌-◌, ◌^◌, nat_le, ℤ, pos, ◌-ℤ◌, not, List, [], ◌∷◌, Some, Result, Ok}
use Rattle.std.specs.Int.Signed.{lt_z}
use Rattle.toml.specs.Data.{Members, Items, no_items, item, as_table}
use Rattle.fx_nums.specs.Fraction.{Fraction}
use Rattle.fx_math.specs.Faults.{◌>>=◌, or_fault, unless}
use Rattle.fx_keys.specs.Entries.{list_at, all_tables, some, at_most}
use Rattle.fx_keys.specs.Numerals.{numeral_at}
use Rattle.fx_keys.specs.Table.{needed, only_keys}
use Rattle.fx_keys.specs.Wholes.{whole_in, whole_or, natural_in}
use Rattle.fx_keys.specs.declared.fault.FilterFault.{FilterFault}
use Rattle.fx_keys.specs.declared.fault.FilterFault.TheVariants.{WrongKind, Shape, Limit}
use Rattle.fx_keys.specs.declared.key.Key.{Key}
use Rattle.fx_keys.specs.declared.key.Key.TheVariants as key
use Rattle.fx_keys.specs.declared.limits.Range.{Range}
use Rattle.fx_keys.specs.declared.limits.TheConstants.{LOWS, LOW_DIFFERENCES}
use Rattle.fx_files.specs.declared.formats.InputFormat.{InputFormat}
use Rattle.fx_files.specs.declared.formats.OutputEntry.{OutputEntry}
use Rattle.fx_files.specs.declared.forms.Form.{Form}
use Rattle.fx_files.specs.declared.forms.Form.TheVariants.{Ss}

-- the inputs, and the low position that they share
pub record Inputs : Type 0 where
  pub low : ℤ
  pub formats : List InputFormat

pub record Ports : Type 0 where
  pub inputs : Inputs
  pub outputs : List OutputEntry

-- the greatest word of so many bits
abbrev pub top_word : ℕ → ℤ
top_word width = pos (2 ^ (width - 1) - 1)

-- the bounds that words of so many bits may have
abbrev pub bounds_of : ℕ → Range
bounds_of width = record { low = pos 0; high = top_word width }

-- the tables at a key
unfoldable pub tables_in : Key → Members → Result Items FilterFault
tables_in k t = do
  v ← needed k t
  vs ← list_at k v
  u ← all_tables k vs
  u ← some k vs
  u ← at_most k vs
  Ok vs

-- ---- inputs

-- an input
unfoldable pub input_in : Members → Result InputFormat FilterFault
input_in t = do
  u ← only_keys (key.InputsWidth ∷ key.InputsBound ∷ []) t
  width ← natural_in key.InputsWidth t
  bound ← whole_or key.InputsBound (bounds_of width) (Some (top_word width)) t
  Ok (record { width = width; bound = bound })

unfoldable pub each_input : Items → Result (List InputFormat) FilterFault
each_input no_items = Ok []
each_input (item v vs) = do
  t ← or_fault (WrongKind key.Inputs) (as_table v)
  i ← input_in t
  is ← each_input vs
  Ok (i ∷ is)

unfoldable pub inputs_in : Members → Result Inputs FilterFault
inputs_in t = do
  low ← whole_in key.InputLow t
  vs ← tables_in key.Inputs t
  formats ← each_input vs
  Ok (record { low = low; formats = formats })

-- ---- outputs

-- the error of the output at this place: not below 0
unfoldable pub error_in : ℕ → Members → Result Fraction FilterFault
error_in place t = do
  v ← needed key.OutputsError t
  c ← numeral_at key.OutputsError place v
  u ← unless (Limit key.OutputsError (pos place) (pos 0)) (not (lt_z c.num (pos 0)))
  Ok c

-- the output at this place, whose low position is the inputs' where it names none
unfoldable pub output_in : ℤ → ℕ → Members → Result OutputEntry FilterFault
output_in input_low place t = do
  u ← only_keys (key.OutputsWidth ∷ key.OutputsLow ∷ key.OutputsError ∷ []) t
  width ← natural_in key.OutputsWidth t
  low ← whole_or key.OutputsLow LOWS (Some input_low) t
  error ← error_in place t
  Ok (record { width = width; low = low; error = error })

unfoldable pub each_output : ℤ → ℕ → Items → Result (List OutputEntry) FilterFault
each_output input_low place no_items = Ok []
each_output input_low place (item v vs) = do
  t ← or_fault (WrongKind key.Outputs) (as_table v)
  o ← output_in input_low place t
  os ← each_output input_low (place + 1) vs
  Ok (o ∷ os)

unfoldable pub outputs_in : ℤ → Members → Result (List OutputEntry) FilterFault
outputs_in input_low t = do
  vs ← tables_in key.Outputs t
  each_output input_low 0 vs

-- ---- both

unfoldable pub ports_in : Members → Result Ports FilterFault
ports_in t = do
  inputs ← inputs_in t
  outputs ← outputs_in inputs.low t
  Ok (record { inputs = inputs; outputs = outputs })

-- ---- what the parts of a file have to agree on

-- an input or output alone
abbrev pub alone : Key → ℕ → Result (Unit {0}) FilterFault
alone k count = unless (Shape k count 1) (nat_le count 1)

-- forms other than the state space have one input and one output
unfoldable pub single : Form → ℕ → ℕ → Result (Unit {0}) FilterFault
single Ss m p = Ok tt
single _ m p = do
  u ← alone key.Inputs m
  alone key.Outputs p

-- an output's low position is near that of the inputs, and its words fit the accumulator
abbrev pub output_fits : ℤ → ℕ → OutputEntry → Result (Unit {0}) FilterFault
output_fits input_low accumulator o = do
  u ← unless (Limit key.OutputsLow (input_low -ℤ o.low) LOW_DIFFERENCES.low)
      (not (lt_z (input_low -ℤ o.low) LOW_DIFFERENCES.low))
  u ← unless (Limit key.OutputsLow (input_low -ℤ o.low) LOW_DIFFERENCES.high)
      (not (lt_z LOW_DIFFERENCES.high (input_low -ℤ o.low)))
  unless (Limit key.OutputsWidth (pos o.width) (pos accumulator)) (nat_le o.width accumulator)

unfoldable pub outputs_fit : ℤ → ℕ → List OutputEntry → Result (Unit {0}) FilterFault
outputs_fit input_low accumulator [] = Ok tt
outputs_fit input_low accumulator (o ∷ os) = do
  u ← output_fits input_low accumulator o
  outputs_fit input_low accumulator os
