-- What each fault says of a filter file.
use Rattle.std.specs.Prelude.{◌≡◌, ◌≢◌, ◌⊎◌, ℕ, ◌<◌, ◌≤◌, ℤ, pos, ◌-ℤ◌, ◌<ℤ◌, true, false, List, [], ◌∷◌, All}
use Rattle.std.specs.Prelude.{Option, Some, None, IsSome, Err, codes, slice_get, ⊤}
use Rattle.std.specs.Str.{is_utf8}
use Rattle.toml.specs.Data.{Data, Members, string, integer, get_member}
use Rattle.toml.specs.Parse.{parse_document}
use Rattle.fx_math.specs.Words.{is_accumulator}
use Rattle.fx_nums.specs.Fraction.{Fraction, is_one}
use Rattle.fx_decimal.specs.Continued.{IsUnfinished, StopsAt}
use Rattle.fx_decimal.specs.Faults.{Means}
use Rattle.fx_decimal.specs.declared.fault.DecimalFault.{DecimalFault}
use Rattle.fx_decimal.specs.declared.fault.DecimalFault.TheVariants as decimal
use Rattle.fx_keys.specs.Keys.{parent_of, range_of, most_of, default_of}
use Rattle.fx_keys.specs.Numerals.{numeral_text}
use Rattle.fx_keys.specs.Table.{is_known}
use Rattle.fx_keys.specs.declared.fault.FilterFault.{FilterFault}
use Rattle.fx_keys.specs.declared.fault.FilterFault.TheVariants as fault
use Rattle.fx_keys.specs.declared.key.Key.{Key}
use Rattle.fx_keys.specs.declared.key.Key.TheVariants as key
use Rattle.fx_keys.specs.declared.limits.Range.{Range}
use Rattle.fx_keys.specs.declared.limits.TheConstants.{LOW_DIFFERENCES, ACCUMULATOR_WIDTHS}
use Rattle.fx_files.specs.Describes.{HoldsForm}
use Rattle.fx_files.specs.Holds.{value_at, HoldsInteger, HoldsNatural, IsNumeralOf}
use Rattle.fx_files.specs.Ports.{bounds_of}
use Rattle.fx_files.specs.declared.forms.Form.{Form}
use Rattle.fx_files.specs.declared.forms.Form.TheVariants as form
use Rattle.fx_faults.specs.Kinds.{kind_of, HasKind, Text, IsOfWholes, IsOfNumerals, entries_of}
use Rattle.fx_faults.specs.Places.{IsTableAt, keys_in, HasValue, HasEntry, HasCount, HasRow, IsFixedCount, IsFixedWidth}
use Rattle.fx_faults.specs.Places.{HasToBeOne}

-- ---- keys

-- the key is required: in files of every form, or of the form that this file names
abbrev pub IsRequired : Members → Key → Type 0
IsRequired file key.Form = ⊤
IsRequired file key.Inputs = ⊤
IsRequired file key.InputsWidth = ⊤
IsRequired file key.Outputs = ⊤
IsRequired file key.OutputsWidth = ⊤
IsRequired file key.OutputsError = ⊤
IsRequired file key.B = HoldsForm file form.Tf
IsRequired file key.A = HoldsForm file form.Tf
IsRequired file key.Sections = HoldsForm file form.Sos
IsRequired file key.MatA = HoldsForm file form.Ss
IsRequired file key.MatB = HoldsForm file form.Ss
IsRequired file key.MatC = HoldsForm file form.Ss
IsRequired file key.MatD = HoldsForm file form.Ss
IsRequired file key.K = HoldsForm file form.Lattice
IsRequired file key.V = HoldsForm file form.Lattice
IsRequired file _ = ⊥

-- the key is required, and a table in which it has to stand has none
pub record IsMissing (file : Members) (k : Key) : Type 0 where
  pub required : IsRequired file k
  pub place : ℕ
  pub owner : Members
  pub stands : IsTableAt (parent_of k) place file owner
  pub absent : value_at k owner ≡ None

-- a table of the file has this key, and it is none of those that such a table may have in a file of its form
pub record IsUnknown (file : Members) (text : List ℕ) : Type 0 where
  pub form : Form
  pub named : HoldsForm file form
  pub list : Option Key
  pub place : ℕ
  pub owner : Members
  pub stands : IsTableAt list place file owner
  pub known : List Key
  pub may_have : keys_in list form ≡ Some known
  pub there : IsSome (get_member text owner)
  pub unknown : is_known known text ≡ false

-- ---- kinds and words

-- the value of the key, or an entry of it, is of another kind
pub record IsOfOtherKind (file : Members) (k : Key) : Type 0 where
  pub place : ℕ
  pub value : Data
  pub held : HasValue file k place value
  pub other : ¬ HasKind (kind_of k) value

-- the words of a key
abbrev pub words_of : Key → List (List ℕ)
words_of key.Form = codes "tf" ∷ codes "sos" ∷ codes "ss" ∷ codes "lattice" ∷ []
words_of key.Structure =
    codes "df1" ∷ codes "df2" ∷ codes "df2t" ∷ codes "fir" ∷ codes "lattice" ∷ codes "ss" ∷ []
words_of key.Rounding = codes "nearest" ∷ codes "floor" ∷ []
words_of _ = []

-- the text of the key is none of its words
pub record IsOtherWord (file : Members) (k : Key) : Type 0 where
  pub words : kind_of k ≡ Text
  pub text : List ℕ
  pub held : value_at k file ≡ Some (string text)
  pub other : All (λ word. text ≢ word) (words_of k)

-- ---- numerals

-- a text that is no numeral, or one past a limit
abbrev pub IsNoNumeral : DecimalFault → List ℕ → Type 0
IsNoNumeral decimal.Empty text = IsUnfinished text
IsNoNumeral (decimal.BadByte at) text = StopsAt at text
IsNoNumeral limit text = Means text (Err limit)

-- the text of this entry is so
pub record IsBadNumeral (file : Members) (k : Key) (place : ℕ) (bad : DecimalFault) : Type 0 where
  pub numerals : IsOfNumerals (kind_of k)
  pub value : Data
  pub held : HasEntry file k place value
  pub text : List ℕ
  pub written : numeral_text value ≡ Some text
  pub no_numeral : IsNoNumeral bad text

-- this entry has to be 1, and is another number
pub record IsNotOne (file : Members) (k : Key) (place : ℕ) : Type 0 where
  pub one : HasToBeOne k place
  pub value : Data
  pub held : HasEntry file k place value
  pub number : Fraction
  pub means : IsNumeralOf number value
  pub other : is_one number ≡ false

-- ---- counts

-- the list of the key is empty, as only that of `k` may be
abbrev pub IsEmpty : Members → Key → ℕ → ℕ → Type 0
IsEmpty file k got wanted = (k ≢ key.K) × HasCount file k got × (got ≡ 0) × (wanted ≡ 1)

-- the list of the key has so many entries, and another count is fixed
pub record IsOfOtherCount (file : Members) (k : Key) (got wanted : ℕ) : Type 0 where
  pub form : Form
  pub named : HoldsForm file form
  pub found : HasCount file k got
  pub fixed : IsFixedCount file form k wanted

-- a row of the key has so many entries, and another count is fixed
pub record IsOfOtherWidth (file : Members) (k : Key) (got wanted : ℕ) : Type 0 where
  pub found : HasRow file k got
  pub fixed : IsFixedWidth file k wanted

-- these two counts differ
abbrev pub IsMisshapen : Members → Key → ℕ → ℕ → Type 0
IsMisshapen file k got wanted = (got ≢ wanted)
    × (IsEmpty file k got wanted ⊎ (IsOfOtherCount file k got wanted ⊎ IsOfOtherWidth file k got wanted))

-- ---- limits

-- a number outside a range, and the end of the range next to it
abbrev pub IsPast : Range → ℤ → ℤ → Type 0
IsPast range z limit = ((z <ℤ range.low) × (limit ≡ range.low)) ⊎ ((range.high <ℤ z) × (limit ≡ range.high))

-- the numbers that a key of this table may have: bounds of an input are those of its width
abbrev pub IsRangeOf : Key → Members → Range → Type 0
IsRangeOf key.InputsBound owner range = (width : ℕ) × HoldsNatural key.InputsWidth owner width
    × (range ≡ bounds_of width)
IsRangeOf k owner range = range ≡ range_of k

-- the whole number at the key, or an entry of it, is outside the key's range
pub record IsOutOfRange (file : Members) (k : Key) (got limit : ℤ) : Type 0 where
  pub whole : IsOfWholes (kind_of k)
  pub place : ℕ
  pub value : Data
  pub held : HasValue file k place value
  pub entry : ℕ
  pub among : slice_get (entries_of (kind_of k) value) entry ≡ Some (integer got)
  pub range : Range
  pub ranged : IsRangeOf k held.owner range
  pub past : IsPast range got limit

-- the list of the key has more entries than it may have
pub record IsTooLong (file : Members) (k : Key) (got limit : ℤ) : Type 0 where
  pub count : ℕ
  pub found : HasCount file k count
  pub limited : 1 ≤ most_of k
  pub above : most_of k < count
  pub counted : got ≡ pos count
  pub most : limit ≡ pos (most_of k)

-- the accumulator's bits are none of 16, 32 and 64, and the limit is 64
pub record IsNoAccumulator (file : Members) (got limit : ℤ) : Type 0 where
  pub held : value_at key.Accumulator file ≡ Some (integer got)
  pub other : (bits : ℕ) → is_accumulator bits ≡ true → got ≢ pos bits
  pub greatest : limit ≡ ACCUMULATOR_WIDTHS.high

-- the low position of an output is so far below that of the inputs (above, where the number is negative), and too far
pub record IsFarFromInputs (file : Members) (got limit : ℤ) : Type 0 where
  pub place : ℕ
  pub low : ℤ
  pub held : HasValue file key.OutputsLow place (integer low)
  pub input_low : ℤ
  pub inputs : HoldsInteger key.InputLow (default_of key.InputLow) file input_low
  pub difference : got ≡ input_low -ℤ low
  pub past : IsPast LOW_DIFFERENCES got limit

-- an output has more bits than the accumulator
pub record IsWiderThanAccumulator (file : Members) (got limit : ℤ) : Type 0 where
  pub place : ℕ
  pub held : HasValue file key.OutputsWidth place (integer got)
  pub accumulator : HoldsInteger key.Accumulator (default_of key.Accumulator) file limit
  pub above : limit <ℤ got

-- the error of the output at this place is below 0
pub record IsNegativeError (file : Members) (got limit : ℤ) : Type 0 where
  pub place : ℕ
  pub value : Data
  pub held : HasValue file key.OutputsError place value
  pub number : Fraction
  pub means : IsNumeralOf number value
  pub negative : number.num <ℤ pos 0
  pub numbered : got ≡ pos place
  pub least : limit ≡ pos 0

-- the number got is past the limit
abbrev pub IsPastLimit : Members → Key → ℤ → ℤ → Type 0
IsPastLimit file key.Accumulator got limit = IsNoAccumulator file got limit
IsPastLimit file key.OutputsLow got limit =
    IsOutOfRange file key.OutputsLow got limit ⊎ IsFarFromInputs file got limit
IsPastLimit file key.OutputsWidth got limit =
    IsOutOfRange file key.OutputsWidth got limit ⊎ IsWiderThanAccumulator file got limit
IsPastLimit file key.OutputsError got limit = IsNegativeError file got limit
IsPastLimit file k got limit = IsOutOfRange file k got limit ⊎ IsTooLong file k got limit

-- ---- all

-- what a fault says of the table of a file
abbrev pub IsTrueOf : Members → FilterFault → Type 0
IsTrueOf file (fault.Missing k) = IsMissing file k
IsTrueOf file (fault.WrongKind k) = IsOfOtherKind file k
IsTrueOf file (fault.Numeral k place bad) = IsBadNumeral file k place bad
IsTrueOf file (fault.NotMonic k place) = IsNotOne file k place
IsTrueOf file (fault.Shape k got wanted) = IsMisshapen file k got wanted
IsTrueOf file (fault.Limit k got limit) = IsPastLimit file k got limit
IsTrueOf file (fault.UnknownKey text) = IsUnknown file text
IsTrueOf file (fault.UnknownWord k) = IsOtherWord file k
IsTrueOf file fault.NotToml = ⊥
IsTrueOf file fault.NoMemory = ⊥

-- bytes are the text of this table
pub record IsTextOf (bytes : List ℕ) (file : Members) : Type 0 where
  pub text : is_utf8 bytes ≡ true
  pub parsed : parse_document bytes ≡ Some file

-- the bytes are no text in UTF-8, or the text is no table
abbrev pub IsNoTable : List ℕ → Type 0
IsNoTable bytes = (file : Members) → ¬ IsTextOf bytes file

-- what a fault says of a file
abbrev pub IsTrueOfFile : List ℕ → FilterFault → Type 0
IsTrueOfFile bytes fault.NotToml = IsNoTable bytes
IsTrueOfFile bytes told = (file : Members) × IsTextOf bytes file × IsTrueOf file told
