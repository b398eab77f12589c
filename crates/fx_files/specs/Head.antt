-- The form of a file, and which keys it may have.
use Rattle.std.specs.Prelude.{Result, Ok}
use Rattle.toml.specs.Data.{Members}
use Rattle.fx_math.specs.Faults.{◌>>=◌}
use Rattle.fx_keys.specs.Table.{needed, only_keys}
use Rattle.fx_keys.specs.Words.{word_at}
use Rattle.fx_keys.specs.declared.fault.FilterFault.{FilterFault}
use Rattle.fx_keys.specs.declared.key.Key.TheVariants as key
use Rattle.fx_files.specs.Forms.{form_word, known_keys}
use Rattle.fx_files.specs.declared.forms.Form.{Form}

-- the key `form`
abbrev pub form_in : Members → Result Form FilterFault
form_in t = do
  v ← needed key.Form t
  word_at key.Form form_word v

-- the form, and no key that a file of this form has not
unfoldable pub head_in : Members → Result Form FilterFault
head_in t = do
  form ← form_in t
  u ← only_keys (known_keys form) t
  Ok form
