-- The kind of value that a filter file has at each key.
use Rattle.std.specs.Prelude.{◌≡◌, ℕ, List, [], ◌∷◌, flat_map, Some, IsSome, IsSomeAnd, ⊤}
use Rattle.toml.specs.Data.{Data, Items, no_items, item, array, get_item, as_str, as_integer, as_array, as_table}
use Rattle.fx_keys.specs.Numerals.{numeral_text}
use Rattle.fx_keys.specs.declared.key.Key.{Key}
use Rattle.fx_keys.specs.declared.key.Key.TheVariants as key

-- a text; a whole number; a numeral, which is a quoted one or a whole number; a table; a list of these, or of lists
pub data Kind : Type 0 where
  Text : Kind
  Whole : Kind
  Numeral : Kind
  Table : Kind
  ListOf : Kind → Kind

abbrev pub kind_of : Key → Kind
kind_of key.Form = Text
kind_of key.InputLow = Whole
kind_of key.Inputs = ListOf Table
kind_of key.InputsWidth = Whole
kind_of key.InputsBound = Whole
kind_of key.Outputs = ListOf Table
kind_of key.OutputsWidth = Whole
kind_of key.OutputsLow = Whole
kind_of key.OutputsError = Numeral
kind_of key.B = ListOf Numeral
kind_of key.A = ListOf Numeral
kind_of key.Sections = ListOf (ListOf Numeral)
kind_of key.MatA = ListOf (ListOf Numeral)
kind_of key.MatB = ListOf (ListOf Numeral)
kind_of key.MatC = ListOf (ListOf Numeral)
kind_of key.MatD = ListOf (ListOf Numeral)
kind_of key.K = ListOf Numeral
kind_of key.V = ListOf Numeral
kind_of key.Structure = Text
kind_of key.Rounding = Text
kind_of key.Accumulator = Whole
kind_of key.Word = Whole
kind_of key.Guards = ListOf Whole
kind_of key.Fractions = ListOf Whole
kind_of key.Lengths = ListOf Whole

-- what holds of each entry
abbrev pub EachEntry : (Data → Type 0) → Items → Type 0
EachEntry P vs = (place : ℕ) (v : Data) → get_item place vs ≡ Some v → P v

-- a value of this kind
abbrev pub HasKind : Kind → Data → Type 0
HasKind Text v = IsSome (as_str v)
HasKind Whole v = IsSome (as_integer v)
HasKind Numeral v = IsSome (numeral_text v)
HasKind Table v = IsSome (as_table v)
HasKind (ListOf kind) v = IsSomeAnd (as_array v) (EachEntry (HasKind kind))

-- whole numbers, or lists of them
abbrev pub IsOfWholes : Kind → Type 0
IsOfWholes Whole = ⊤
IsOfWholes (ListOf kind) = IsOfWholes kind
IsOfWholes _ = ⊥

-- numerals, or lists of them
abbrev pub IsOfNumerals : Kind → Type 0
IsOfNumerals Numeral = ⊤
IsOfNumerals (ListOf kind) = IsOfNumerals kind
IsOfNumerals _ = ⊥

abbrev pub listed : Items → List Data
listed no_items = []
listed (item v vs) = v ∷ listed vs

-- what stands in a value: in lists their entries, row after row
abbrev pub entries_of : Kind → Data → List Data
entries_of (ListOf kind) (array vs) = flat_map (entries_of kind) (listed vs)
entries_of _ v = v ∷ []
