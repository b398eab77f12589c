-- The entries of lists.
use Rattle.std.specs.Prelude.{ℕ, suc, ◌==◌, nat_lt, nat_le, pos, is_some, Result, Ok, Err, if◌then◌else◌}
use Rattle.toml.specs.Data.{Data, Items, no_items, item, as_table, as_array}
use Rattle.fx_math.specs.Faults.{or_fault, unless}
use Rattle.fx_keys.specs.Keys.{most_of}
use Rattle.fx_keys.specs.declared.fault.FilterFault.{FilterFault}
use Rattle.fx_keys.specs.declared.fault.FilterFault.TheVariants.{WrongKind, Shape, Limit}
use Rattle.fx_keys.specs.declared.key.Key.{Key}

abbrev pub list_at : Key → Data → Result Items FilterFault
list_at k v = or_fault (WrongKind k) (as_array v)

unfoldable pub item_count : Items → ℕ
item_count no_items = 0
item_count (item v vs) = suc (item_count vs)

-- there is an entry
abbrev pub some : Key → Items → Result (Unit {0}) FilterFault
some k vs = unless (Shape k 0 1) (nat_lt 0 (item_count vs))

-- no more entries than the key may have
abbrev pub at_most : Key → Items → Result (Unit {0}) FilterFault
at_most k vs = unless (Limit k (pos (item_count vs)) (pos (most_of k))) (nat_le (item_count vs) (most_of k))

-- just as many entries as another key wants
abbrev pub exactly : Key → ℕ → Items → Result (Unit {0}) FilterFault
exactly k wanted vs = unless (Shape k (item_count vs) wanted) (item_count vs == wanted)

-- each entry is a table
unfoldable pub all_tables : Key → Items → Result (Unit {0}) FilterFault
all_tables k no_items = Ok tt
all_tables k (item v vs) = if is_some (as_table v) then all_tables k vs else Err (WrongKind k)
