-- What every filter keeps.
use Rattle.std.specs.Prelude.{◌≡◌, ℕ, ◌+◌, ◌*◌, ◌/◌, ◌≤◌, true, ℤ, pos, ◌-ℤ◌, ◌≤ℤ◌, List, length, map, All, Ok}
use Rattle.fx_nums.specs.Fraction.{Fraction, OverTen}
use Rattle.fx_eqs.specs.declared.limits.TheConstants.{PORTS, COEFFICIENTS, SECTIONS, STATES, REFLECTIONS}
use Rattle.fx_eqs.specs.declared.term.Term.{Term}
use Rattle.fx_math.specs.Words.{WidthFits, is_accumulator}
use Rattle.fx_keys.specs.Fits.{NaturalsFit}
use Rattle.fx_keys.specs.Keys.{IsWithin}
use Rattle.fx_keys.specs.declared.key.Key.TheVariants as key
use Rattle.fx_keys.specs.declared.limits.TheConstants.{LOWS, LOW_DIFFERENCES, ACCUMULATOR_WIDTHS, SECTION_COEFFICIENTS}
use Rattle.fx_files.specs.Building.{equations_of, target_of}
use Rattle.fx_files.specs.Coefficients as coefficients
use Rattle.fx_files.specs.Coefficients.{Coefficients, coefficients_of, form_of}
use Rattle.fx_files.specs.Filter.{Filter}
use Rattle.fx_files.specs.Lists.{monic, each_monic}
use Rattle.fx_files.specs.Ports.{Inputs, Ports, bounds_of}
use Rattle.fx_files.specs.Settings.{Settings}
use Rattle.fx_files.specs.declared.formats.InputFormat.{InputFormat}
use Rattle.fx_files.specs.declared.formats.OutputEntry.{OutputEntry}
use Rattle.fx_files.specs.declared.formats.OutputFormat.{OutputFormat}
use Rattle.fx_files.specs.declared.forms.Form.{Form}
use Rattle.fx_files.specs.declared.forms.Form.TheVariants.{Ss}

-- ---- formats

pub record InputFits (i : InputFormat) : Type 0 where
  pub width : WidthFits i.width
  pub bound : IsWithin (bounds_of i.width) i.bound

-- an output as a file gives it
pub record EntryFits (o : OutputEntry) : Type 0 where
  pub width : WidthFits o.width
  pub low : IsWithin LOWS o.low
  pub error_over_ten : OverTen o.error
  pub error_low : pos 0 ≤ℤ o.error.num

-- it agrees with the low position of the inputs, and with the bits of an accumulator
pub record EntryAgrees (input_low : ℤ) (accumulator : ℕ) (o : OutputEntry) : Type 0 where
  pub width_kept : o.width ≤ accumulator
  pub difference : IsWithin LOW_DIFFERENCES (input_low -ℤ o.low)

-- an output beside inputs of this low position and an accumulator of so many bits
pub record OutputFits (input_low : ℤ) (accumulator : ℕ) (o : OutputFormat) : Type 0 where
  pub width : WidthFits o.width
  pub width_kept : o.width ≤ accumulator
  pub low : IsWithin LOWS o.low
  pub difference : IsWithin LOW_DIFFERENCES (input_low -ℤ o.low)
  pub error_over_ten : OverTen o.error
  pub error_low : pos 0 ≤ℤ o.error.num
  pub target : o.target ≡ target_of o.error

-- inputs and outputs as a file gives them
pub record InputsFit (inputs : Inputs) : Type 0 where
  pub low : IsWithin LOWS inputs.low
  pub formats_low : 1 ≤ length inputs.formats
  pub formats_high : length inputs.formats ≤ PORTS
  pub each : All InputFits inputs.formats

pub record PortsFit (ports : Ports) : Type 0 where
  pub inputs_fit : InputsFit ports.inputs
  pub outputs_low : 1 ≤ length ports.outputs
  pub outputs_high : length ports.outputs ≤ PORTS
  pub outputs_fit : All EntryFits ports.outputs

-- ---- settings

-- the bits of an accumulator
pub record AccumulatorFits (bits : ℕ) : Type 0 where
  pub listed : is_accumulator bits ≡ true
  pub within : IsWithin ACCUMULATOR_WIDTHS (pos bits)

pub record SettingsFit (s : Settings) : Type 0 where
  pub accumulator : AccumulatorFits s.accumulator
  pub word : WidthFits s.word
  pub guards : NaturalsFit key.Guards s.guards
  pub fractions : NaturalsFit key.Fractions s.fractions
  pub lengths : NaturalsFit key.Lengths s.lengths

-- ---- coefficients

-- numerator and denominator, whose first coefficient is 1
pub record TransferFits (b a : List Fraction) : Type 0 where
  pub numerator_low : 1 ≤ length b
  pub numerator_high : length b ≤ COEFFICIENTS
  pub denominator_low : 1 ≤ length a
  pub denominator_high : length a ≤ COEFFICIENTS
  pub is_monic : monic key.A 0 a ≡ Ok tt

-- sections, one or more, whose fourth coefficient is 1
pub record CascadeFits (sections : List Fraction) : Type 0 where
  pub low : SECTION_COEFFICIENTS ≤ length sections
  pub high : length sections ≤ SECTION_COEFFICIENTS * SECTIONS
  pub whole : length sections ≡ SECTION_COEFFICIENTS * (length sections / SECTION_COEFFICIENTS)
  pub is_monic : each_monic key.Sections 0 sections ≡ Ok tt

-- matrices over n states, m inputs and p outputs
pub record SpaceFits (m p n : ℕ) (A B C D : List Fraction) : Type 0 where
  pub states_low : 1 ≤ n
  pub states_high : n ≤ STATES
  pub a_length : length A ≡ n * n
  pub b_length : length B ≡ n * m
  pub c_length : length C ≡ p * n
  pub d_length : length D ≡ p * m

-- reflection coefficients, and one tap more
pub record LadderFits (k v : List Fraction) : Type 0 where
  pub order : length k ≤ REFLECTIONS
  pub taps : length v ≡ length k + 1

-- the lists of a form, with m inputs and p outputs
abbrev pub CoefficientsFit : ℕ → ℕ → Coefficients → Type 0
CoefficientsFit m p (coefficients.Tf b a) = TransferFits b a
CoefficientsFit m p (coefficients.Sos sections) = CascadeFits sections
CoefficientsFit m p (coefficients.Ss n A B C D) = SpaceFits m p n A B C D
CoefficientsFit m p (coefficients.Lattice k v) = LadderFits k v

-- they do, however many inputs and outputs there are
abbrev pub AlwaysFit : Coefficients → Type 0
AlwaysFit c = (m p : ℕ) → CoefficientsFit m p c

-- each list over powers of ten
abbrev pub EachOverTen : Coefficients → Type 0
EachOverTen (coefficients.Tf b a) = All OverTen b × All OverTen a
EachOverTen (coefficients.Sos sections) = All OverTen sections
EachOverTen (coefficients.Ss n A B C D) = All OverTen A × All OverTen B × All OverTen C × All OverTen D
EachOverTen (coefficients.Lattice k v) = All OverTen k × All OverTen v

-- forms other than the state space have one input and one output
abbrev pub CountsFit : Form → ℕ → ℕ → Type 0
CountsFit Ss m p = Unit {0}
CountsFit _ m p = (m ≡ 1) × (p ≡ 1)

-- ---- a filter

pub record FilterFits (f : Filter) : Type 0 where
  pub input_low : IsWithin LOWS f.input_low
  pub inputs_low : 1 ≤ length f.inputs
  pub inputs_high : length f.inputs ≤ PORTS
  pub inputs : All InputFits f.inputs
  pub outputs_low : 1 ≤ length f.outputs
  pub outputs_high : length f.outputs ≤ PORTS
  pub outputs : All (OutputFits f.input_low f.settings.accumulator) f.outputs
  pub settings : SettingsFit f.settings
  pub counts : CountsFit (form_of f.coefficients) (length f.inputs) (length f.outputs)
  pub coefficients : CoefficientsFit (length f.inputs) (length f.outputs) f.coefficients
  pub over_ten : All OverTen (coefficients_of f.coefficients)
  pub textbook : f.equations ≡ equations_of (length f.inputs) (length f.outputs) f.coefficients
  pub equation_inputs : f.equations.inputs ≡ length f.inputs
  pub equation_outputs : f.equations.outputs ≡ map (λ (o : OutputFormat). o.row) f.outputs
  pub equation_terms : All (λ (t : Term). OverTen t.coef) f.equations.terms
