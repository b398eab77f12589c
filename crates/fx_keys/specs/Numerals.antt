-- Lists of numerals, and lists of such lists.
use Rattle.std.specs.Prelude.{ℕ, ◌+◌, List, [], ◌∷◌, ◌++◌, is_some, Option, option_map, Result, Ok, Err, if◌then◌else◌}
use Rattle.std.specs.Fmt.{signed_decimal}
use Rattle.std.specs.Option.{option_or}
use Rattle.toml.specs.Data.{Data, Members, Items, no_items, item, as_str, as_integer}
use Rattle.fx_math.specs.Faults.{◌>>=◌, or_fault}
use Rattle.fx_decimal.specs.Faults.{numeral}
use Rattle.fx_decimal.specs.declared.fault.DecimalFault.{DecimalFault}
use Rattle.fx_nums.specs.Fraction.{Fraction}
use Rattle.fx_keys.specs.Entries.{list_at, exactly}
use Rattle.fx_keys.specs.Table.{needed}
use Rattle.fx_keys.specs.declared.fault.FilterFault.{FilterFault}
use Rattle.fx_keys.specs.declared.fault.FilterFault.TheVariants.{WrongKind, Numeral}
use Rattle.fx_keys.specs.declared.key.Key.{Key}

-- the text of a numeral: a quoted one, or the decimal text of a whole number
abbrev pub numeral_text : Data → Option (List ℕ)
numeral_text v = option_or (as_str v) (option_map signed_decimal (as_integer v))

-- what a text means, or the fault of the entry at this place
abbrev pub in_place : {A : Type 0} → Key → ℕ → Result A DecimalFault → Result A FilterFault
in_place k place (Ok x) = Ok x
in_place k place (Err e) = Err (Numeral k place e)

unfoldable pub numeral_at : Key → ℕ → Data → Result Fraction FilterFault
numeral_at k place v = do
  text ← or_fault (WrongKind k) (numeral_text v)
  in_place k place (numeral text)

-- ---- one list

-- each entry is a numeral
unfoldable pub all_numerals : Key → Items → Result (Unit {0}) FilterFault
all_numerals k no_items = Ok tt
all_numerals k (item v vs) = if is_some (numeral_text v) then all_numerals k vs else Err (WrongKind k)

-- what the entries from this place on mean
unfoldable pub each_numeral : Key → ℕ → Items → Result (List Fraction) FilterFault
each_numeral k place no_items = Ok []
each_numeral k place (item v vs) = do
  x ← numeral_at k place v
  xs ← each_numeral k (place + 1) vs
  Ok (x ∷ xs)

-- the list of numerals at a key
unfoldable pub entries_in : Key → Members → Result Items FilterFault
entries_in k t = do
  v ← needed k t
  vs ← list_at k v
  u ← all_numerals k vs
  Ok vs

-- ---- rows of numerals

-- each entry is a list of numerals
unfoldable pub all_rows : Key → Items → Result (Unit {0}) FilterFault
all_rows k no_items = Ok tt
all_rows k (item v vs) = do
  es ← list_at k v
  u ← all_numerals k es
  all_rows k vs

-- the rows at a key
unfoldable pub rows_in : Key → Members → Result Items FilterFault
rows_in k t = do
  v ← needed k t
  vs ← list_at k v
  u ← all_rows k vs
  Ok vs

-- the entries of a row, as many as another key wants
unfoldable pub row_of : Key → ℕ → Data → Result Items FilterFault
row_of k width v = do
  es ← list_at k v
  u ← exactly k width es
  Ok es

-- each row has this many entries
unfoldable pub each_exactly : Key → ℕ → Items → Result (Unit {0}) FilterFault
each_exactly k width no_items = Ok tt
each_exactly k width (item v vs) = do
  es ← row_of k width v
  each_exactly k width vs

-- what the rows mean, row after row, from this place on
unfoldable pub each_row : Key → ℕ → ℕ → Items → Result (List Fraction) FilterFault
each_row k width place no_items = Ok []
each_row k width place (item v vs) = do
  es ← row_of k width v
  xs ← each_numeral k place es
  ys ← each_row k width (place + width) vs
  Ok (xs ++ ys)

-- rows of this many entries each, read row after row
unfoldable pub matrix : Key → ℕ → Items → Result (List Fraction) FilterFault
matrix k width rows = do
  u ← each_exactly k width rows
  each_row k width 0 rows
