-- The table of a file, and the values at its keys.
use Rattle.std.specs.Prelude.{ℕ, Bool, List, Result, Ok, Err, if◌then◌else◌}
use Rattle.std.specs.List.{list_any}
use Rattle.std.specs.Str.{is_utf8, bytes_eq}
use Rattle.toml.specs.Data.{Data, Members, no_members, member, get_member}
use Rattle.toml.specs.Parse.{parse_document}
use Rattle.fx_math.specs.Faults.{or_fault}
use Rattle.fx_keys.specs.Keys.{own_name}
use Rattle.fx_keys.specs.declared.fault.FilterFault.{FilterFault}
use Rattle.fx_keys.specs.declared.fault.FilterFault.TheVariants.{NotToml, Missing, UnknownKey}
use Rattle.fx_keys.specs.declared.key.Key.{Key}

-- the table that the text of the bytes is
abbrev pub table_at : List ℕ → Result Members FilterFault
table_at bytes = if is_utf8 bytes then or_fault NotToml (parse_document bytes) else Err NotToml

-- the value at a key that has to be there
abbrev pub needed : Key → Members → Result Data FilterFault
needed k t = or_fault (Missing k) (get_member (own_name k) t)

-- a text is the name of one of these keys
abbrev pub is_known : List Key → List ℕ → Bool
is_known known text = list_any (λ k. bytes_eq (own_name k) text) known

-- no key but these: else the first other in the order of the members
unfoldable pub only_keys : List Key → Members → Result (Unit {0}) FilterFault
only_keys known no_members = Ok tt
only_keys known (member text d ms) = if is_known known text then only_keys known ms else Err (UnknownKey text)
