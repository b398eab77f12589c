-- What is to be tried in making code.
use Rattle.std.specs.Prelude.{ℕ, ℤ, pos, negsuc, unsigned_abs, Bool, false, List, Result, Ok}
use Rattle.toml.specs.Data.{Members}
use Rattle.fx_eqs.specs.declared.mode.Mode.{Mode}
use Rattle.fx_eqs.specs.declared.mode.Mode.TheVariants.{Nearest}
use Rattle.fx_math.specs.Faults.{◌>>=◌, unless}
use Rattle.fx_math.specs.Words.{is_accumulator}
use Rattle.fx_keys.specs.Keys.{range_of, default_of}
use Rattle.fx_keys.specs.Wholes.{integer_or, natural_in, naturals_in}
use Rattle.fx_keys.specs.Words.{word_or}
use Rattle.fx_keys.specs.declared.fault.FilterFault.{FilterFault}
use Rattle.fx_keys.specs.declared.fault.FilterFault.TheVariants.{Limit}
use Rattle.fx_keys.specs.declared.key.Key.TheVariants as key
use Rattle.fx_files.specs.Forms.{default_structure, mode_word, structure_word}
use Rattle.fx_files.specs.declared.forms.Form.{Form}
use Rattle.fx_files.specs.declared.forms.Structure.{Structure}

-- the structure, how rows drop their low places, the bits of an accumulator, the most bits of an inner word, and the
-- lists of guard bits, of bits of a fraction and of moments, in the order in which they are to be tried
pub record Settings : Type 0 where
  pub structure : Structure
  pub rounding : Mode
  pub accumulator : ℕ
  pub word : ℕ
  pub guards : List ℕ
  pub fractions : List ℕ
  pub lengths : List ℕ

-- the key `structure`, by default the form's own
abbrev pub structure_in : Form → Members → Result Structure FilterFault
structure_in form t = word_or key.Structure structure_word (default_structure form) t

-- the key `rounding`, by default to the nearest
abbrev pub mode_in : Members → Result Mode FilterFault
mode_in t = word_or key.Rounding mode_word Nearest t

-- an accumulator may have so many bits
abbrev pub is_listed : ℤ → Bool
is_listed (pos n) = is_accumulator n
is_listed (negsuc n) = false

-- the key `accumulator`; of other numbers the greatest that it may be is told
abbrev pub accumulator_in : Members → Result ℕ FilterFault
accumulator_in t = do
  z ← integer_or key.Accumulator (default_of key.Accumulator) t
  u ← unless (Limit key.Accumulator z (range_of key.Accumulator).high) (is_listed z)
  Ok (unsigned_abs z)

-- the keys from `structure` on
unfoldable pub settings_in : Form → Members → Result Settings FilterFault
settings_in form t = do
  structure ← structure_in form t
  rounding ← mode_in t
  accumulator ← accumulator_in t
  word ← natural_in key.Word t
  guards ← naturals_in key.Guards t
  fractions ← naturals_in key.Fractions t
  lengths ← naturals_in key.Lengths t
  Ok (record {
    structure = structure;
    rounding = rounding;
    accumulator = accumulator;
    word = word;
    guards = guards;
    fractions =
        fractions;
    lengths = lengths;
  })
