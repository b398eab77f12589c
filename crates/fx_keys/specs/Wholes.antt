-- Whole numbers at keys, alone and in lists.
use Rattle.std.specs.Prelude.{ℕ, ℤ, unsigned_abs, List, [], ◌∷◌, is_some, Option, Result, Ok, Err, if◌then◌else◌}
use Rattle.std.specs.Int.Signed.{lt_z}
use Rattle.std.specs.Option.{option_map_or}
use Rattle.toml.specs.Data.{Data, Members, Items, no_items, item, get_member, as_integer}
use Rattle.fx_math.specs.Faults.{◌>>=◌, or_fault}
use Rattle.fx_keys.specs.Entries.{list_at, some, at_most}
use Rattle.fx_keys.specs.Keys.{own_name, range_of, default_of, default_list_of}
use Rattle.fx_keys.specs.declared.fault.FilterFault.{FilterFault}
use Rattle.fx_keys.specs.declared.fault.FilterFault.TheVariants.{Missing, WrongKind, Limit}
use Rattle.fx_keys.specs.declared.key.Key.{Key}
use Rattle.fx_keys.specs.declared.limits.Range.{Range}

-- ---- alone

abbrev pub integer_at : Key → Data → Result ℤ FilterFault
integer_at k v = or_fault (WrongKind k) (as_integer v)

-- at a key, with a default where it need not be there
abbrev pub integer_or : Key → Option ℤ → Members → Result ℤ FilterFault
integer_or k default t = option_map_or (integer_at k) (get_member (own_name k) t) (or_fault (Missing k) default)

-- a number of a range; else the end of it that is nearer is told
abbrev pub ranged : Key → Range → ℤ → Result ℤ FilterFault
ranged k range z =
    if lt_z z range.low then Err (Limit k z range.low) else if lt_z range.high z then Err
    (Limit k z range.high) else Ok z

abbrev pub whole_or : Key → Range → Option ℤ → Members → Result ℤ FilterFault
whole_or k range default t = do
  z ← integer_or k default t
  ranged k range z

-- with the key's own range and default
abbrev pub whole_in : Key → Members → Result ℤ FilterFault
whole_in k t = whole_or k (range_of k) (default_of k) t

-- the same where the range has natural numbers alone
abbrev pub natural_in : Key → Members → Result ℕ FilterFault
natural_in k t = do
  z ← whole_in k t
  Ok (unsigned_abs z)

-- ---- in lists

-- each entry is a whole number
unfoldable pub all_whole : Key → Items → Result (Unit {0}) FilterFault
all_whole k no_items = Ok tt
all_whole k (item v vs) = if is_some (as_integer v) then all_whole k vs else Err (WrongKind k)

-- an entry in the key's range
abbrev pub natural_at : Key → Data → Result ℕ FilterFault
natural_at k v = do
  z ← integer_at k v
  n ← ranged k (range_of k) z
  Ok (unsigned_abs n)

unfoldable pub each_natural : Key → Items → Result (List ℕ) FilterFault
each_natural k no_items = Ok []
each_natural k (item v vs) = do
  n ← natural_at k v
  ns ← each_natural k vs
  Ok (n ∷ ns)

-- a list of them, of one or more and no more than the key may have
unfoldable pub naturals : Key → Data → Result (List ℕ) FilterFault
naturals k v = do
  vs ← list_at k v
  u ← all_whole k vs
  u ← some k vs
  u ← at_most k vs
  each_natural k vs

-- at a key, with the key's default where it need not be there
abbrev pub naturals_in : Key → Members → Result (List ℕ) FilterFault
naturals_in k t = option_map_or (naturals k) (get_member (own_name k) t) (or_fault (Missing k) (default_list_of k))
