-- What the laws of this crate say.
use Rattle.std.specs.Prelude.{◌≡◌, ℕ, true, false, List, IsSome, Err}
use Rattle.std.specs.Ordering.{is_lt, nat_cmp}
use Rattle.std.specs.Cmp.Lexicographic.{slice_cmp}
use Rattle.toml.specs.Data.{Members, get_member}
use Rattle.fx_keys.specs.Table.{is_known, only_keys}
use Rattle.fx_keys.specs.declared.key.Key.{Key}
use Rattle.fx_keys.specs.declared.fault.FilterFault.TheVariants.{UnknownKey}

-- a key of a table that is unknown, while each key of the table that comes before it by its bytes is known
pub record IsFirstUnknown (known : List Key) (t : Members) (text : List ℕ) : Type 0 where
  pub there : IsSome (get_member text t)
  pub unknown : is_known known text ≡ false
  pub first : (other : List ℕ) → IsSome (get_member other t) → is_lt (slice_cmp nat_cmp other text) ≡ true →
      is_known known other ≡ true

-- the unknown key that is answered is the first of its table
abbrev pub FirstUnknown : Members → Type 0
FirstUnknown t = (known : List Key) (text : List ℕ) → only_keys known t ≡ Err (UnknownKey text) →
    IsFirstUnknown known t text
