-- Plain lines: whole numbers of digits, with commas between them, and a line feed.
use Rattle.std.specs.Prelude.{◌≡◌, ◌⊎◌, ◌≤◌, ◌<◌, ◌==◌, if◌then◌else◌, ℕ, ℤ, List, [], ◌∷◌, ◌++◌, length, Some}
use Rattle.std.specs.List.{AllByRecursion}
use Rattle.csv.specs.Machine.{line_feed, next_record}
use Rattle.csv.specs.Reading.{default_config, strip_bom}
use Rattle.csv.specs.declared.parser.State.TheVariants as st
use Rattle.fx_math.specs.Residue.{FitsBits}
use Rattle.fx_nums.specs.Signs.{IsDigit, minus_sign}
use Rattle.fx_sim.specs.Fields.{IsField}
use Rattle.fx_sim.specs.Laws.{IsRecordOf}

abbrev pub comma : ℕ
comma = 44

-- a byte of a plain field: none of csv's marks
abbrev pub IsPlain : ℕ → Type 0
IsPlain c = (c ≡ minus_sign) ⊎ IsDigit c

-- a text begins with a plain field that is a word of this width, and goes on behind it
pub record BeginsWithWord (text : List ℕ) (width : ℕ) (word : ℤ) (behind : List ℕ) : Type 0 where
  pub field : List ℕ
  pub parts : text ≡ field ++ behind
  pub some : 1 ≤ length field
  pub plain : AllByRecursion IsPlain field
  pub value : IsField field word
  pub fits : FitsBits width word

-- what follows a line feed at the front, where there is one
abbrev pub line_at : List ℕ → List ℕ
line_at [] = []
line_at (c ∷ cs) = if c == line_feed then cs else c ∷ cs

-- the first record of a text is one of these words, its line feed and what is left follow
pub record FirstRecord (widths text : List ℕ) (words : List ℤ) (behind : List ℕ) : Type 0 where
  pub fields : List (List ℕ)
  pub left : List ℕ
  pub are_words : IsRecordOf widths fields words
  pub ends : behind ≡ line_feed ∷ left
  pub unmarked : strip_bom text ≡ text
  pub shorter : length behind < length text
  pub reads : next_record default_config st.StartRecord [] [] text ≡ Some (fields, st.StartRecord, left)
