-- The numbers of samples, moment by moment, or their first fault.
use Rattle.std.specs.Prelude.{ℕ, ℤ, pos, neg_ℤ, ◌+◌, ◌-◌, ◌^◌, ◌==◌, ◌&&◌, Bool, true, false, List, []}
use Rattle.std.specs.Prelude.{◌∷◌, length, Result, Ok, Err, if◌then◌else◌}
use Rattle.std.specs.Int.Signed.{le_z, lt_z}
use Rattle.csv.specs.Reading.{default_config, records, strip_bom}
use Rattle.fx_math.specs.Faults.{or_fault, ◌>>=◌}
use Rattle.fx_sim.specs.Fields.{field_value}
use Rattle.fx_sim.specs.declared.fault.SampleFault.{SampleFault}
use Rattle.fx_sim.specs.declared.fault.SampleFault.TheVariants.{Columns, Field, OutOfWord, NoMemory}

-- the one fault that may come at any time
abbrev pub is_memory : SampleFault → Bool
is_memory NoMemory = true
is_memory _ = false

-- a number of this many bits in two's complement
abbrev pub is_word : ℕ → ℤ → Bool
is_word width z = le_z (neg_ℤ (pos (2 ^ (width - 1)))) z && lt_z z (pos (2 ^ (width - 1)))

-- the word of the field in a column
unfoldable pub word_in : ℕ → ℕ → ℕ → List ℕ → Result ℤ SampleFault
word_in number column width field = do
  z ← or_fault (Field number column) (field_value field)
  if is_word width z then Ok z else Err (OutOfWord number column z)

-- the words of the fields from a column on, each in its input's width
unfoldable pub words_in : ℕ → ℕ → List ℕ → List (List ℕ) → Result (List ℤ) SampleFault
words_in number column (width ∷ widths) (field ∷ fields) = do
  z ← word_in number column width field
  zs ← words_in number (column + 1) widths fields
  Ok (z ∷ zs)
words_in number column _ _ = Ok []

-- the words of the record with this number: one field for each input
unfoldable pub moment_in : ℕ → List ℕ → List (List ℕ) → Result (List ℤ) SampleFault
moment_in number widths fields =
    if length fields == length widths then words_in number 1 widths fields else Err
    (Columns number (length fields) (length widths))

-- the words of the records from this number on
unfoldable pub moments_in : ℕ → List ℕ → List (List (List ℕ)) → Result (List (List ℤ)) SampleFault
moments_in number widths [] = Ok []
moments_in number widths (fields ∷ rest) = do
  words ← moment_in number widths fields
  moments ← moments_in (number + 1) widths rest
  Ok (words ∷ moments)

-- the words of samples for inputs of these widths: each record of the text, without a byte order mark at its start, is
-- one moment
abbrev pub samples_in : List ℕ → List ℕ → Result (List (List ℤ)) SampleFault
samples_in widths bytes = moments_in 1 widths (records default_config (strip_bom bytes))
