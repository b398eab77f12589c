-- What a table holds at a key.
use Rattle.std.specs.Prelude.{◌≡◌, ◌≤◌, ℕ, ℤ, pos, true, List, [], ◌∷◌, length, flat_map, All, Option}
use Rattle.std.specs.Prelude.{Some, IsSome, IsSomeAnd, MatchOption, Ok, ⊤}
use Rattle.toml.specs.Data.{Data, Members, Items, no_items, item, get_member, as_str, as_integer, as_array, as_table}
use Rattle.fx_nums.specs.Fraction.{Fraction}
use Rattle.fx_decimal.specs.Faults.{Means}
use Rattle.fx_keys.specs.Keys.{IsWithin, own_name, range_of, most_of, default_of, default_list_of}
use Rattle.fx_keys.specs.Numerals.{numeral_text}
use Rattle.fx_keys.specs.Table.{is_known}
use Rattle.fx_keys.specs.declared.key.Key.{Key}
use Rattle.fx_keys.specs.declared.limits.Range.{Range}

-- the value at a key
abbrev pub value_at : Key → Members → Option Data
value_at k t = get_member (own_name k) t

-- no key beside these
abbrev pub HasOnly : List Key → Members → Type 0
HasOnly known t = (text : List ℕ) → IsSome (get_member text t) → is_known known text ≡ true

-- ---- lists and tables

-- the entries are what a list says, one by one
abbrev pub Each : {A : Type 0} → (A → Data → Type 0) → List A → Items → Type 0
Each says [] no_items = ⊤
Each says (x ∷ xs) (item v vs) = says x v × Each says xs vs
Each says _ _ = ⊥

-- a list of them
abbrev pub IsListOf : {A : Type 0} → (A → Data → Type 0) → List A → Data → Type 0
IsListOf says xs v = IsSomeAnd (as_array v) (Each says xs)

-- a table that is described so
abbrev pub IsTableOf : {A : Type 0} → (Members → A → Type 0) → A → Data → Type 0
IsTableOf describes x v = IsSomeAnd (as_table v) (λ t. describes t x)

-- one or more, and no more than the key may have
pub record CountFits (k : Key) (n : ℕ) : Type 0 where
  pub some : 1 ≤ n
  pub few : n ≤ most_of k

-- a list of tables at the key
pub record HoldsTables {A : Type 0} (k : Key) (describes : Members → A →
    Type 0) (t : Members) (xs : List A) : Type 0 where
  pub held : IsSomeAnd (value_at k t) (IsListOf (IsTableOf describes) xs)
  pub count : CountFits k (length xs)

-- ---- words

-- the value is the text of a word
abbrev pub IsWordOf : {A : Type 0} → (A → List ℕ) → A → Data → Type 0
IsWordOf spelled x v = as_str v ≡ Some (spelled x)

-- the word at the key, or the default where the key is absent
abbrev pub HoldsWord : {A : Type 0} → Key → (A → List ℕ) → A → Members → A → Type 0
HoldsWord k spelled default t x = MatchOption (value_at k t) (x ≡ default) (IsWordOf spelled x)

-- ---- whole numbers

-- the whole number at the key, or the default where the key is absent
abbrev pub HoldsInteger : Key → Option ℤ → Members → ℤ → Type 0
HoldsInteger k default t z = MatchOption (value_at k t) (default ≡ Some z) (λ v. as_integer v ≡ Some z)

-- one of a range
pub record HoldsWhole (k : Key) (range : Range) (default : Option ℤ) (t : Members) (z : ℤ) : Type 0 where
  pub number : HoldsInteger k default t z
  pub within : IsWithin range z

-- one of the key's own range, and with its own default
abbrev pub HoldsNatural : Key → Members → ℕ → Type 0
HoldsNatural k t n = HoldsWhole k (range_of k) (default_of k) t (pos n)

-- an entry that is a whole number of the key's range
pub record IsNaturalOf (k : Key) (n : ℕ) (v : Data) : Type 0 where
  pub number : as_integer v ≡ Some (pos n)
  pub within : IsWithin (range_of k) (pos n)

-- a list of them
pub record AreNaturals (k : Key) (ns : List ℕ) (v : Data) : Type 0 where
  pub entries : IsListOf (IsNaturalOf k) ns v
  pub count : CountFits k (length ns)

-- the list at the key, or its default where the key is absent
abbrev pub HoldsNaturals : Key → Members → List ℕ → Type 0
HoldsNaturals k t ns = MatchOption (value_at k t) (default_list_of k ≡ Some ns) (AreNaturals k ns)

-- ---- numerals

-- a numeral that means this fraction
abbrev pub IsNumeralOf : Fraction → Data → Type 0
IsNumeralOf c v = IsSomeAnd (numeral_text v) (λ text. Means text (Ok c))

-- a list of numerals at the key
abbrev pub HoldsNumerals : Key → Members → List Fraction → Type 0
HoldsNumerals k t cs = IsSomeAnd (value_at k t) (IsListOf IsNumeralOf cs)

-- a list of lists of numerals at the key
abbrev pub HoldsRows : Key → Members → List (List Fraction) → Type 0
HoldsRows k t rows = IsSomeAnd (value_at k t) (IsListOf (IsListOf IsNumeralOf) rows)

-- the rows one behind the other
abbrev pub row_after_row : List (List Fraction) → List Fraction
row_after_row rows = flat_map (λ row. row) rows

-- each row has so many entries
abbrev pub AreWide : ℕ → List (List Fraction) → Type 0
AreWide width rows = All (λ row. length row ≡ width) rows

-- a matrix at the key, of so many rows of so many entries, read row after row
pub record HoldsMatrix (k : Key) (height width : ℕ) (t : Members) (cs : List Fraction) : Type 0 where
  pub rows : List (List Fraction)
  pub held : HoldsRows k t rows
  pub high : length rows ≡ height
  pub wide : AreWide width rows
  pub joined : cs ≡ row_after_row rows
