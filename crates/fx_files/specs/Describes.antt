-- Which filter a table describes.
use Rattle.std.specs.Prelude.{◌≡◌, ◌↔◌, ◌≤◌, ℕ, ◌+◌, ℤ, pos, ◌-ℤ◌, ◌≤ℤ◌, true, List, [], ◌∷◌, length}
use Rattle.std.specs.Prelude.{get_or, map, All, Some, IsSomeAnd, Ok}
use Rattle.std.specs.Str.{is_utf8}
use Rattle.toml.specs.Data.{Members}
use Rattle.toml.specs.Parse.{parse_document}
use Rattle.fx_math.specs.Words.{is_accumulator}
use Rattle.fx_eqs.specs.declared.mode.Mode.TheVariants.{Nearest}
use Rattle.fx_nums.specs.Fraction.{Fraction, zero_fraction, is_one}
use Rattle.fx_keys.specs.Keys.{IsWithin, range_of, most_of, default_of}
use Rattle.fx_keys.specs.declared.key.Key.{Key}
use Rattle.fx_keys.specs.declared.key.Key.TheVariants as key
use Rattle.fx_keys.specs.declared.limits.TheConstants.{LOWS, LOW_DIFFERENCES, SECTION_COEFFICIENTS}
use Rattle.fx_files.specs.Holds.{value_at, HasOnly, CountFits, HoldsTables, IsWordOf, HoldsWord}
use Rattle.fx_files.specs.Holds.{HoldsInteger, HoldsWhole}
use Rattle.fx_files.specs.Holds.{HoldsNatural, HoldsNaturals, IsNumeralOf, HoldsNumerals, HoldsRows, AreWide}
use Rattle.fx_files.specs.Holds.{row_after_row, HoldsMatrix}
use Rattle.fx_files.specs.Building.{equations_of, target_of}
use Rattle.fx_files.specs.Coefficients as coefficients
use Rattle.fx_files.specs.Coefficients.{Coefficients, form_of}
use Rattle.fx_files.specs.Filter.{Filter}
use Rattle.fx_files.specs.Fits.{CountsFit}
use Rattle.fx_files.specs.Forms.{known_keys, form_text, structure_text, mode_text, default_structure}
use Rattle.fx_files.specs.Settings.{Settings}
use Rattle.fx_files.specs.Ports.{bounds_of, top_word}
use Rattle.fx_files.specs.Reading.{filter_of_bytes}
use Rattle.fx_files.specs.declared.formats.InputFormat.{InputFormat}
use Rattle.fx_files.specs.declared.formats.OutputFormat.{OutputFormat}
use Rattle.fx_files.specs.declared.forms.Form.{Form}

-- ---- inputs and outputs

-- an input: its bound is the greatest word of its width where the table names none
pub record DescribesInput (t : Members) (i : InputFormat) : Type 0 where
  pub keys : HasOnly (key.InputsWidth ∷ key.InputsBound ∷ []) t
  pub width : HoldsNatural key.InputsWidth t i.width
  pub bound : HoldsWhole key.InputsBound (bounds_of i.width) (Some (top_word i.width)) t i.bound

-- an output: its low position is that of the inputs where the table names none; its error is not below 0, and its
-- target is this error at the scale 2 ^ -64, rounded down
pub record DescribesOutput (input_low : ℤ) (t : Members) (o : OutputFormat) : Type 0 where
  pub keys : HasOnly (key.OutputsWidth ∷ key.OutputsLow ∷ key.OutputsError ∷ []) t
  pub width : HoldsNatural key.OutputsWidth t o.width
  pub low : HoldsWhole key.OutputsLow LOWS (Some input_low) t o.low
  pub error : IsSomeAnd (value_at key.OutputsError t) (IsNumeralOf o.error)
  pub not_negative : pos 0 ≤ℤ o.error.num
  pub target : o.target ≡ target_of o.error

-- an output beside inputs of this low position and an accumulator of so many bits
pub record IsNear (input_low : ℤ) (accumulator : ℕ) (o : OutputFormat) : Type 0 where
  pub low : IsWithin LOW_DIFFERENCES (input_low -ℤ o.low)
  pub width : o.width ≤ accumulator

-- ---- coefficients

-- a polynomial
pub record HoldsPolynomial (k : Key) (t : Members) (cs : List Fraction) : Type 0 where
  pub entries : HoldsNumerals k t cs
  pub count : CountFits k (length cs)

-- a transfer function: b and a, whose first coefficient is 1
pub record DescribesTransfer (t : Members) (b a : List Fraction) : Type 0 where
  pub numerator : HoldsPolynomial key.B t b
  pub denominator : HoldsPolynomial key.A t a
  pub leads : is_one (get_or a 0 zero_fraction) ≡ true

-- sections: rows b0 b1 b2 a0 a1 a2, where a0 is 1
pub record DescribesCascade (t : Members) (cs : List Fraction) : Type 0 where
  pub rows : List (List Fraction)
  pub held : HoldsRows key.Sections t rows
  pub count : CountFits key.Sections (length rows)
  pub wide : AreWide SECTION_COEFFICIENTS rows
  pub lead : All (λ row. is_one (get_or row 3 zero_fraction) ≡ true) rows
  pub joined : cs ≡ row_after_row rows

-- a state space of n states, m inputs and p outputs: matrices n by n, n by m, p by n and p by m
pub record DescribesSpace (m p : ℕ) (t : Members) (n : ℕ) (a b c d : List Fraction) : Type 0 where
  pub states : CountFits key.MatA n
  pub state : HoldsMatrix key.MatA n n t a
  pub input : HoldsMatrix key.MatB n m t b
  pub output : HoldsMatrix key.MatC p n t c
  pub through : HoldsMatrix key.MatD p m t d

-- a lattice: reflection coefficients, none or more, and one tap more
pub record DescribesLattice (t : Members) (k v : List Fraction) : Type 0 where
  pub reflections : HoldsNumerals key.K t k
  pub taps : HoldsNumerals key.V t v
  pub few : length k ≤ most_of key.K
  pub one_more : length v ≡ length k + 1

-- the coefficients of a form, with m inputs and p outputs
abbrev pub DescribesCoefficients : ℕ → ℕ → Members → Coefficients → Type 0
DescribesCoefficients m p t (coefficients.Tf b a) = DescribesTransfer t b a
DescribesCoefficients m p t (coefficients.Sos sections) = DescribesCascade t sections
DescribesCoefficients m p t (coefficients.Ss n A B C D) = DescribesSpace m p t n A B C D
DescribesCoefficients m p t (coefficients.Lattice k v) = DescribesLattice t k v

-- ---- what is to be tried in making code

pub record DescribesSettings (form : Form) (t : Members) (s : Settings) : Type 0 where
  pub structure : HoldsWord key.Structure structure_text (default_structure form) t s.structure
  pub rounding : HoldsWord key.Rounding mode_text Nearest t s.rounding
  pub accumulator : HoldsInteger key.Accumulator (default_of key.Accumulator) t (pos s.accumulator)
  pub is_listed : is_accumulator s.accumulator ≡ true
  pub word : HoldsNatural key.Word t s.word
  pub guards : HoldsNaturals key.Guards t s.guards
  pub fractions : HoldsNaturals key.Fractions t s.fractions
  pub lengths : HoldsNaturals key.Lengths t s.lengths

-- ---- a filter

-- the form named
abbrev pub HoldsForm : Members → Form → Type 0
HoldsForm t form = IsSomeAnd (value_at key.Form t) (IsWordOf form_text form)

-- what the keys hold, which keys there are, and the table of equations: the textbook system of the form on these
-- coefficients, whose rows are put out in the order of the outputs
pub record Describes (t : Members) (f : Filter) : Type 0 where
  pub form : HoldsForm t (form_of f.coefficients)
  pub keys : HasOnly (known_keys (form_of f.coefficients)) t
  pub input_low : HoldsWhole key.InputLow (range_of key.InputLow) (default_of key.InputLow) t f.input_low
  pub inputs : HoldsTables key.Inputs DescribesInput t f.inputs
  pub outputs : HoldsTables key.Outputs (DescribesOutput f.input_low) t f.outputs
  pub coefficients : DescribesCoefficients (length f.inputs) (length f.outputs) t f.coefficients
  pub settings : DescribesSettings (form_of f.coefficients) t f.settings
  pub counts : CountsFit (form_of f.coefficients) (length f.inputs) (length f.outputs)
  pub near : All (IsNear f.input_low f.settings.accumulator) f.outputs
  pub equations : f.equations ≡ equations_of (length f.inputs) (length f.outputs) f.coefficients
  pub rows : f.equations.outputs ≡ map (λ (o : OutputFormat). o.row) f.outputs

-- bytes that are a filter's file: a text whose table describes it
pub record IsFileOf (bytes : List ℕ) (f : Filter) : Type 0 where
  pub table : Members
  pub text : is_utf8 bytes ≡ true
  pub parsed : parse_document bytes ≡ Some table
  pub described : Describes table f

-- bytes are read as a filter exactly where they are its file
abbrev pub FileLaw : Type 0
FileLaw = (bytes : List ℕ) (f : Filter) → (filter_of_bytes bytes ≡ Ok f) ↔ IsFileOf bytes f

-- a table describes at most one filter
abbrev pub DescribesOne : Type 0
DescribesOne = (t : Members) (f g : Filter) → Describes t f → Describes t g → f ≡ g
