-- The keys of a filter file: how each is spelled, which numbers stand there, and what holds where it is absent.
use Rattle.std.specs.Prelude.{ℕ, ℤ, pos, ◌≤ℤ◌, List, ◌++◌, codes, Option, Some, None}
use Rattle.fx_eqs.specs.declared.limits.TheConstants.{PORTS, COEFFICIENTS, SECTIONS, STATES, REFLECTIONS}
use Rattle.fx_math.specs.declared.words.TheConstants.{GREATEST_WIDTH}
use Rattle.fx_keys.specs.declared.key.Key.{Key}
use Rattle.fx_keys.specs.declared.key.Key.TheVariants as key
use Rattle.fx_keys.specs.declared.limits.Range.{Range}
use Rattle.fx_keys.specs.declared.limits.TheConstants.{NO_NUMBERS, LOWS, WIDTHS, ACCUMULATOR_WIDTHS, BOUNDS}
use Rattle.fx_keys.specs.declared.limits.TheConstants.{GUARDS, FRACTIONS, LENGTHS}
use Rattle.fx_keys.specs.declared.limits.TheConstants.{LIST_ENTRIES}
use Rattle.fx_keys.specs.declared.limits.TheConstants.{DEFAULT_GUARDS, DEFAULT_FRACTIONS, DEFAULT_LENGTHS}

-- ---- names

-- the key as its table spells it
abbrev pub own_name : Key → List ℕ
own_name key.Form = codes "form"
own_name key.InputLow = codes "input_low"
own_name key.Inputs = codes "inputs"
own_name key.InputsWidth = codes "width"
own_name key.InputsBound = codes "bound"
own_name key.Outputs = codes "outputs"
own_name key.OutputsWidth = codes "width"
own_name key.OutputsLow = codes "low"
own_name key.OutputsError = codes "error"
own_name key.B = codes "b"
own_name key.A = codes "a"
own_name key.Sections = codes "sections"
own_name key.MatA = codes "A"
own_name key.MatB = codes "B"
own_name key.MatC = codes "C"
own_name key.MatD = codes "D"
own_name key.K = codes "k"
own_name key.V = codes "v"
own_name key.Structure = codes "structure"
own_name key.Rounding = codes "rounding"
own_name key.Accumulator = codes "accumulator"
own_name key.Word = codes "word"
own_name key.Guards = codes "guards"
own_name key.Fractions = codes "fractions"
own_name key.Lengths = codes "lengths"

-- the key of the list whose tables have this one
abbrev pub parent_of : Key → Option Key
parent_of key.InputsWidth = Some key.Inputs
parent_of key.InputsBound = Some key.Inputs
parent_of key.OutputsWidth = Some key.Outputs
parent_of key.OutputsLow = Some key.Outputs
parent_of key.OutputsError = Some key.Outputs
parent_of _ = None

-- a name behind that of a list and a point
abbrev pub behind : Option Key → List ℕ → List ℕ
behind None name = name
behind (Some list) name = own_name list ++ (codes "." ++ name)

-- the key as faults tell it
abbrev pub name_of : Key → List ℕ
name_of k = behind (parent_of k) (own_name k)

-- ---- ranges

-- a whole number of a range
abbrev pub IsWithin : Range → ℤ → Type 0
IsWithin r z = (r.low ≤ℤ z) × (z ≤ℤ r.high)

-- a range of natural numbers of 16 bits
pub record IsNatural (r : Range) : Type 0 where
  pub low : pos 0 ≤ℤ r.low
  pub high : r.high ≤ℤ pos 65535

-- the whole numbers that stand at a key or in its list
abbrev pub range_of : Key → Range
range_of key.InputLow = LOWS
range_of key.InputsWidth = WIDTHS
range_of key.InputsBound = BOUNDS
range_of key.OutputsWidth = WIDTHS
range_of key.OutputsLow = LOWS
range_of key.Accumulator = ACCUMULATOR_WIDTHS
range_of key.Word = WIDTHS
range_of key.Guards = GUARDS
range_of key.Fractions = FRACTIONS
range_of key.Lengths = LENGTHS
range_of _ = NO_NUMBERS

-- the most entries of a key's list, where no other key fixes their count
abbrev pub most_of : Key → ℕ
most_of key.Inputs = PORTS
most_of key.Outputs = PORTS
most_of key.B = COEFFICIENTS
most_of key.A = COEFFICIENTS
most_of key.Sections = SECTIONS
most_of key.MatA = STATES
most_of key.K = REFLECTIONS
most_of key.Guards = LIST_ENTRIES
most_of key.Fractions = LIST_ENTRIES
most_of key.Lengths = LIST_ENTRIES
most_of _ = 0

-- ---- defaults

-- the whole number where the key is absent; else the key has to be there, or another key has its default
abbrev pub default_of : Key → Option ℤ
default_of key.InputLow = Some (pos 0)
default_of key.Accumulator = Some ACCUMULATOR_WIDTHS.high
default_of key.Word = Some (pos GREATEST_WIDTH)
default_of _ = None

-- the list of whole numbers where the key is absent
abbrev pub default_list_of : Key → Option (List ℕ)
default_list_of key.Guards = Some DEFAULT_GUARDS
default_list_of key.Fractions = Some DEFAULT_FRACTIONS
default_list_of key.Lengths = Some DEFAULT_LENGTHS
default_list_of _ = None
