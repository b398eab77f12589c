-- What the laws of this crate say.
use Rattle.std.specs.Prelude.{◌≡◌, ◌↔◌, ℕ, ◌<◌, ℤ, pos, List, [], length, slice_index, slice_index_or, Some, Ok}
use Rattle.std.specs.List.{AllZip}
use Rattle.csv.specs.Reading.{default_config, records, strip_bom}
use Rattle.fx_math.specs.Residue.{FitsBits}
use Rattle.fx_sim.specs.Fields.{IsField, field_value}
use Rattle.fx_sim.specs.Samples.{samples_in}

-- a number is read from exactly the fields that stand for it
abbrev pub FieldLaw : Type 0
FieldLaw = (field : List ℕ) (number : ℤ) → (field_value field ≡ Some number) ↔ IsField field number

-- a record that stands for words of inputs of these widths: one field for each input, whose number is a word of its
-- width
pub record IsRecordOf (widths : List ℕ) (fields : List (List ℕ)) (words : List ℤ) : Type 0 where
  pub fields_count : length fields ≡ length widths
  pub words_count : length words ≡ length widths
  pub are_fields : (j : ℕ) → j < length widths → IsField (slice_index_or fields j []) (slice_index_or words j (pos 0))
  pub fit : (j : ℕ) → j < length widths → FitsBits (slice_index widths j) (slice_index_or words j (pos 0))

-- moments are read from exactly the samples whose records stand for them, one after the other
abbrev pub SamplesLaw : Type 0
SamplesLaw = (widths bytes : List ℕ) (list : List (List ℤ)) →
    (samples_in widths bytes ≡ Ok list) ↔ AllZip (IsRecordOf widths) (records default_config (strip_bom bytes))
    list
