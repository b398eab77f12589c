-- Texts at keys, of which each is one of a few words.
use Rattle.std.specs.Prelude.{ℕ, List, Option, Result, Ok}
use Rattle.std.specs.Option.{option_map_or}
use Rattle.toml.specs.Data.{Data, Members, get_member, as_str}
use Rattle.fx_math.specs.Faults.{◌>>=◌, or_fault}
use Rattle.fx_keys.specs.Keys.{own_name}
use Rattle.fx_keys.specs.declared.fault.FilterFault.{FilterFault}
use Rattle.fx_keys.specs.declared.fault.FilterFault.TheVariants.{WrongKind, UnknownWord}
use Rattle.fx_keys.specs.declared.key.Key.{Key}

abbrev pub text_at : Key → Data → Result (List ℕ) FilterFault
text_at k v = or_fault (WrongKind k) (as_str v)

-- what the text means, where it is one of the key's words
abbrev pub word_at : {A : Type 0} → Key → (List ℕ → Option A) → Data → Result A FilterFault
word_at k meaning v = do
  text ← text_at k v
  or_fault (UnknownWord k) (meaning text)

-- at a key, with a default where it need not be there
abbrev pub word_or : {A : Type 0} → Key → (List ℕ → Option A) → A → Members → Result A FilterFault
word_or k meaning default t = option_map_or (word_at k meaning) (get_member (own_name k) t) (Ok default)
