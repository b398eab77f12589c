-- Where a filter file's values, lists and entries stand.
use Rattle.std.specs.Prelude.{◌≡◌, ◌≢◌, ℕ, ◌+◌, ◌*◌, List, [], ◌∷◌, Option, Some, None, IsSomeAnd, slice_get}
use Rattle.std.specs.Option.{option_and_then}
use Rattle.toml.specs.Data.{Data, Members, Items, array, table, get_item, as_array}
use Rattle.fx_keys.specs.Entries.{item_count}
use Rattle.fx_keys.specs.Keys.{parent_of}
use Rattle.fx_keys.specs.declared.key.Key.{Key}
use Rattle.fx_keys.specs.declared.key.Key.TheVariants as key
use Rattle.fx_keys.specs.declared.limits.TheConstants.{SECTION_COEFFICIENTS}
use Rattle.fx_files.specs.Holds.{value_at}
use Rattle.fx_files.specs.Forms.{known_keys}
use Rattle.fx_files.specs.declared.forms.Form.{Form}
use Rattle.fx_files.specs.declared.forms.Form.TheVariants as form
use Rattle.fx_faults.specs.Kinds.{kind_of, entries_of}

-- ---- tables

-- the list at a key
abbrev pub list_at : Key → Members → Option Items
list_at k t = option_and_then as_array (value_at k t)

-- a table of the file: its own, or the one at this place of a list of tables
abbrev pub IsTableAt : Option Key → ℕ → Members → Members → Type 0
IsTableAt None place file t = file ≡ t
IsTableAt (Some list) place file t = IsSomeAnd (list_at list file) (λ vs. get_item place vs ≡ Some (table t))

-- the keys that a table may have: of the file's own those of its form, of others those of an input or of an output
abbrev pub keys_in : Option Key → Form → Option (List Key)
keys_in None f = Some (known_keys f)
keys_in (Some key.Inputs) f = Some (key.InputsWidth ∷ key.InputsBound ∷ [])
keys_in (Some key.Outputs) f = Some (key.OutputsWidth ∷ key.OutputsLow ∷ key.OutputsError ∷ [])
keys_in _ f = None

-- ---- values

-- the value at a key, in the file's own table or in that at a place of the list which the key belongs to
pub record HasValue (file : Members) (k : Key) (place : ℕ) (v : Data) : Type 0 where
  pub owner : Members
  pub stands : IsTableAt (parent_of k) place file owner
  pub held : value_at k owner ≡ Some v

-- the entry at a place of a key, from 0 and row after row; of an output's error the place is the output's
abbrev pub HasEntry : Members → Key → ℕ → Data → Type 0
HasEntry file key.OutputsError place v = HasValue file key.OutputsError place v
HasEntry file k place v = IsSomeAnd (value_at k file) (λ value. slice_get (entries_of (kind_of k) value) place ≡ Some v)

-- ---- counts

-- the list at a key has so many entries
abbrev pub HasCount : Members → Key → ℕ → Type 0
HasCount file k n = IsSomeAnd (list_at k file) (λ vs. item_count vs ≡ n)

-- a row of the list at a key has so many entries
pub record HasRow (file : Members) (k : Key) (n : ℕ) : Type 0 where
  pub rows : Items
  pub held : list_at k file ≡ Some rows
  pub place : ℕ
  pub row : Items
  pub stands : get_item place rows ≡ Some (array row)
  pub count : item_count row ≡ n

-- the count that the form or another key fixes for the list of a key: as many rows as states or outputs, one tap more
-- than reflection coefficients, and one input and one output but in a state space
abbrev pub IsFixedCount : Members → Form → Key → ℕ → Type 0
IsFixedCount file f key.MatB n = HasCount file key.MatA n
IsFixedCount file f key.MatC n = HasCount file key.Outputs n
IsFixedCount file f key.MatD n = HasCount file key.Outputs n
IsFixedCount file f key.V n = (order : ℕ) × HasCount file key.K order × (n ≡ order + 1)
IsFixedCount file f key.Inputs n = (f ≢ form.Ss) × (n ≡ 1)
IsFixedCount file f key.Outputs n = (f ≢ form.Ss) × (n ≡ 1)
IsFixedCount file f _ n = ⊥

-- the count that is fixed for each row: six coefficients of a section, as many entries as states or inputs
abbrev pub IsFixedWidth : Members → Key → ℕ → Type 0
IsFixedWidth file key.Sections n = n ≡ SECTION_COEFFICIENTS
IsFixedWidth file key.MatA n = HasCount file key.MatA n
IsFixedWidth file key.MatB n = HasCount file key.Inputs n
IsFixedWidth file key.MatC n = HasCount file key.MatA n
IsFixedWidth file key.MatD n = HasCount file key.Inputs n
IsFixedWidth file _ n = ⊥

-- the entries that have to be 1: the first of `a`, and of each section the fourth
abbrev pub HasToBeOne : Key → ℕ → Type 0
HasToBeOne key.A place = place ≡ 0
HasToBeOne key.Sections place = (section : ℕ) × (place ≡ SECTION_COEFFICIENTS * section + 3)
HasToBeOne _ place = ⊥
