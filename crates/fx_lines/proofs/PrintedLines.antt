-- The line of a refused filter file has no control byte before its line feed.
use Rattle.std.proofs.Common.{◌≡◌, ◌≤◌, ◌/◌, ◌%◌, ℕ, true, List, [], ◌∷◌, ◌++◌, codes, decimal, refl, arith}
use Rattle.std.proofs.Common.{inl, inr}
use Rattle.std.proofs.lemmas.Bool.{cases_Bool}
use Rattle.std.proofs.lemmas.Bool.Decides.{nat_tests}
use Rattle.std.proofs.lemmas.List.Concat.{flat_map-cons}
use Rattle.std.specs.Fmt.{digit_glyph, signed_decimal}
use Rattle.fx_decimal.specs.declared.fault.DecimalFault.{DecimalFault}
use Rattle.fx_decimal.specs.declared.fault.DecimalFault.TheVariants.{Empty, BadByte, TooManyDigits, TooFine, TooLarge}
use Rattle.fx_keys.specs.Keys.{name_of}
use Rattle.fx_keys.specs.declared.key.Key.{Key}
use Rattle.fx_keys.specs.declared.key.Key.TheVariants as key
use Rattle.fx_keys.specs.declared.fault.FilterFault.TheVariants.{NotToml, Missing, WrongKind, Numeral, NotMonic}
use Rattle.fx_keys.specs.declared.fault.FilterFault.TheVariants.{Shape, Limit, UnknownKey, UnknownWord}
use Rattle.fx_keys.specs.declared.fault.FilterFault.TheVariants.{NoMemory}
use Rattle.fx_lines.specs.FilterFault.{numeral_fault_text}
use Rattle.fx_lines.specs.Laws.{is_printed, IsLine, OneLine}
use Rattle.fx_lines.specs.UnknownKey.{is_control, shown_byte, shown_key}
use Rattle.fx_lines.proofs.PrintedParts.{Printed, both_printed, digit_printed, decimal_printed, signed_printed}
use Rattle.fx_lines.proofs.PrintedParts.{line_of, more}

-- ---- keys

name_printed : (k : Key) → Printed (name_of k)
name_printed key.Form = refl
name_printed _ = refl

control_low : (c : ℕ) → is_control c ≡ true → c ≤ 127
control_low c control = grind (arith, nat_tests)

byte_printed : (c : ℕ) → Printed (shown_byte c)
byte_printed c = elim (cases_Bool (is_control c)) [
  | inl control ↦
      let low = control_low c control in
      let first = digit_printed true (c / 16) (omega arith) in
      let second = digit_printed true (c % 16) (omega arith) in
      let digits_of : Printed (digit_glyph true (c / 16) ∷ digit_glyph true (c % 16) ∷ []) = rw (first, second) refl in
      rw control (both_printed (codes "\\x") (digit_glyph true (c / 16) ∷ digit_glyph true (c % 16) ∷ []) refl
      digits_of)
  | inr printed ↦ rw printed (let is : is_printed c ≡ true = rw printed refl in rw is refl)
]

key_printed : (text : List ℕ) → Printed (shown_key text)
key_printed [] = refl
key_printed (c ∷ cs) = rw (flat_map-cons shown_byte c cs)
    (both_printed (shown_byte c) (shown_key cs) (byte_printed c) (key_printed cs))

-- ---- lines

numeral_printed : (why : DecimalFault) → Printed (numeral_fault_text why)
numeral_printed Empty = refl
numeral_printed (BadByte at) = decimal_printed at
numeral_printed TooManyDigits = refl
numeral_printed TooFine = refl
numeral_printed TooLarge = refl

-- words, and a key
keyed : (words : List ℕ) (k : Key) → Printed words → Printed (words ++ name_of k)
keyed words k printed = both_printed words (name_of k) printed (name_printed k)

-- ---- the three forms of a line: words and a key, and one number or two behind them

key_line : (words : List ℕ) (k : Key) → Printed words → IsLine (words ++ name_of k ++ codes "\n")
key_line words k printed = line_of (words ++ name_of k) (keyed words k printed)

keyed_number : (words : List ℕ) (k : Key) (part : List ℕ) → Printed words → Printed part →
    IsLine (words ++ name_of k ++ codes " " ++ part ++ codes "\n")
keyed_number words k part printed first =
    line_of (words ++ name_of k ++ codes " " ++ part)
    (more (words ++ name_of k) part (keyed words k printed) first)

keyed_numbers : (words : List ℕ) (k : Key) (part other : List ℕ) → Printed words → Printed part →
    Printed other → IsLine (words ++ name_of k ++ codes " " ++ part ++ codes " " ++ other ++ codes "\n")
keyed_numbers words k part other printed first second =
    line_of (words ++ name_of k ++ codes " " ++ part ++ codes " " ++ other)
    (more (words ++ name_of k ++ codes " " ++ part) other
    (more (words ++ name_of k) part (keyed words k printed) first) second)

pub one_line : OneLine
one_line NotToml there = line_of (codes "bad filter not toml") refl
one_line (Missing k) there = key_line (codes "bad filter missing ") k refl
one_line (WrongKind k) there = key_line (codes "bad filter wrong kind ") k refl
one_line (Numeral k place why) there =
    keyed_numbers (codes "bad filter numeral ") k (decimal place) (numeral_fault_text why) refl
    (decimal_printed place) (numeral_printed why)
one_line (NotMonic k place) there =
    keyed_number (codes "bad filter not monic ") k (decimal place) refl (decimal_printed place)
one_line (Shape k got wanted) there =
    keyed_numbers (codes "bad filter shape ") k (decimal got) (decimal wanted) refl (decimal_printed got)
    (decimal_printed wanted)
one_line (Limit k got end) there =
    keyed_numbers (codes "bad filter limit ") k (signed_decimal got) (signed_decimal end) refl
    (signed_printed got) (signed_printed end)
one_line (UnknownKey text) there =
    line_of (codes "bad filter unknown key " ++ shown_key text)
    (both_printed (codes "bad filter unknown key ") (shown_key text) refl (key_printed text))
one_line (UnknownWord k) there = key_line (codes "bad filter unknown word ") k refl
one_line NoMemory there = absurd (there refl)
