-- A number is read exactly from the fields that stand for it.
use Rattle.std.proofs.Common.{◌≡◌, ◌+◌, ◌*◌, ◌≤◌, ◌==◌, ◌&&◌, ◌||◌, ◌∙◌, Bool, true, false, cond, nat_lt}
use Rattle.std.proofs.Common.{List, ℕ, ℤ, Option, Some, None, option_map, [], ◌∷◌, ◌++◌, length, refl, sym, ap}
use Rattle.std.proofs.Common.{inl, inr, arith}
use Rattle.std.specs.List.{AllByRecursion}
use Rattle.std.proofs.lemmas.Option.{cond_some, same_Some}
use Rattle.std.proofs.lemmas.Bool.{cases_Bool, and_parts, ne_eqb, or_parts, ltb-true, ltb-false, eqb-true}
use Rattle.std.proofs.lemmas.Bool.{eqb-false, lt-ltb}
use Rattle.std.proofs.lemmas.Bool.Decides.{nat_tests}
use Rattle.fx_nums.specs.Signs.{Sign, Bare, Plus, Minus, digit_nine, digit_value, digit_zero, is_blank}
use Rattle.fx_nums.specs.Signs.{is_minus, IsDigit, minus_sign, number_from, plus_sign, sign_text, signed}
use Rattle.fx_sim.specs.declared.field.TheConstants.{FIELD_DIGITS}
use Rattle.fx_sim.specs.Fields.{IsBlank, IsField, skipped, ended, magnitude, number_in, field_value}
use Rattle.fx_sim.specs.Laws.{FieldLaw}

-- ---- blanks

-- blanks at the front are skipped
skipped_blanks : (before rest : List ℕ) → AllByRecursion IsBlank before → skipped (before ++ rest) ≡ skipped rest
unfolding skipped
skipped_blanks [] rest h = refl
skipped_blanks (c ∷ cs) rest h = rw (h.0) (skipped_blanks cs rest h.1)

nothing_skipped : (c : ℕ) (rest : List ℕ) → is_blank c ≡ false → skipped (c ∷ rest) ≡ c ∷ rest
unfolding skipped
nothing_skipped c rest h = rw h refl

-- what was skipped are blanks
record Skips (text : List ℕ) : Type 0 where
  before : List ℕ
  blank : AllByRecursion IsBlank before
  text_is : text ≡ before ++ skipped text

skips : (text : List ℕ) → Skips text
unfolding skipped
skips [] = record { before = []; blank = tt; text_is = refl }
skips (c ∷ cs) = elim (cases_Bool (is_blank c)) [
  | inl yes_blank ↦
      let later = skips cs in
      record {
        before = c ∷ later.before;
        blank = (yes_blank, later.blank);
        text_is =
            rw yes_blank (ap (λ (t : List ℕ). c ∷ t) later.text_is);
      }
  | inr not_blank ↦ record { before = []; blank = tt; text_is = rw not_blank refl }
]

-- where nothing is left, all were blanks
only_blanks : (text : List ℕ) → length (skipped text) ≡ 0 → AllByRecursion IsBlank text
unfolding skipped
only_blanks [] h = tt
only_blanks (c ∷ cs) h = elim (cases_Bool (is_blank c)) [
  | inl yes_blank ↦ (yes_blank, only_blanks cs (rw yes_blank at h))
  | inr not_blank ↦ absurd (let bad : length (c ∷ cs) ≡ 0 = rw not_blank at h in omega arith)
]

no_blanks_left : (text : List ℕ) → AllByRecursion IsBlank text → length (skipped text) ≡ 0
unfolding skipped
no_blanks_left [] h = refl
no_blanks_left (c ∷ cs) h = rw (h.0) (no_blanks_left cs h.1)

-- ---- digits

-- whether a byte is no digit
abbrev is_other : ℕ → Bool
is_other c = nat_lt c digit_zero || nat_lt digit_nine c

digit_is : (c : ℕ) → is_other c ≡ false → IsDigit c
digit_is c h =
    let (low, high) = or_parts (nat_lt c digit_zero) (nat_lt digit_nine c) h in
    (ltb-false c digit_zero low, ltb-false digit_nine c high)

is_digit : (c : ℕ) → IsDigit c → is_other c ≡ false
is_digit c h = let low = h.0 in let high = h.1 in grind (arith, nat_tests)

blank_is_other : (c : ℕ) → IsBlank c → is_other c ≡ true
blank_is_other c h = grind (arith, nat_tests)

digit_is_no_blank : (c : ℕ) → IsDigit c → is_blank c ≡ false
digit_is_no_blank c h = let low = h.0 in let high = h.1 in grind (arith, nat_tests)

-- digits behind so many that have a value, and then blanks
record Ends (count value : ℕ) (text : List ℕ) (number : ℕ) : Type 0 where
  digits : List ℕ
  behind : List ℕ
  are_digits : AllByRecursion IsDigit digits
  blank : AllByRecursion IsBlank behind
  some : 1 ≤ count + length digits
  few : count + length digits ≤ FIELD_DIGITS
  text_is : text ≡ digits ++ behind
  number_is : number ≡ number_from value digits

ended_is : (count value : ℕ) (text : List ℕ) (number : ℕ) → count ≤ FIELD_DIGITS →
    ended count value text ≡ Some number → Ends count value text number
ended_is count value text number few h =
    let (tested, same) = cond_some (nat_lt 0 count && length (skipped text) == 0) value number h in
    let (some, nothing) = and_parts (nat_lt 0 count) (length (skipped text) == 0) tested in
    let one = ltb-true 0 count some in
    record {
      digits = [];
      behind = text;
      are_digits = tt;
      blank = only_blanks text (eqb-true _ _ nothing);
      some = omega arith;
      few = omega arith;
      text_is = refl;
      number_is = sym same;
    }

one_digit : (count value c : ℕ) (cs : List ℕ) (number : ℕ) → IsDigit c →
    Ends (count + 1) (10 * value + digit_value c) cs number → Ends count value (c ∷ cs) number
one_digit count value c cs number digit e =
    let some = e.some in
    let few = e.few in
    record {
      digits = c ∷ e.digits;
      behind = e.behind;
      are_digits = (digit, e.are_digits);
      blank = e.blank;
      some = omega arith;
      few = omega arith;
      text_is = ap (λ (t : List ℕ). c ∷ t) e.text_is;
      number_is = e.number_is;
    }

magnitude_is : (count value : ℕ) (text : List ℕ) (number : ℕ) → count ≤ FIELD_DIGITS →
    magnitude count value text ≡ Some number → Ends count value text number
unfolding magnitude
magnitude_is count value [] number few h = ended_is count value [] number few h
magnitude_is count value (c ∷ cs) number few h = elim (cases_Bool (is_other c)) [
  | inl other ↦ ended_is count value (c ∷ cs) number few (rw other at h)
  | inr digit ↦
      let next : cond (count == FIELD_DIGITS) None (magnitude (count + 1) (10 * value + digit_value c) cs)
      ≡ Some number = rw digit at h in
      elim (cases_Bool (count == FIELD_DIGITS)) [
        | inl full ↦ absurd (let bad : None ≡ Some number = rw full at next in cc)
        | inr room ↦
            let less = eqb-false count FIELD_DIGITS room in
            one_digit count value c cs number (digit_is c digit)
            (magnitude_is (count + 1) (10 * value + digit_value c) cs number (omega arith) (rw room at next))
      ]
]

ended_read : (count value : ℕ) (text : List ℕ) → AllByRecursion IsBlank text → 1 ≤ count →
    ended count value text ≡ Some value
ended_read count value text blank some = rw (lt-ltb 0 count some, no_blanks_left text blank) refl

ends_read : (count value : ℕ) (behind : List ℕ) → AllByRecursion IsBlank behind → 1 ≤ count →
    magnitude count value behind ≡ Some value
unfolding magnitude
ends_read count value [] blank some = ended_read count value [] blank some
ends_read count value (c ∷ cs) blank some = rw (blank_is_other c blank.0) (ended_read count value (c ∷ cs) blank some)

magnitude_read : (count value : ℕ) (digits behind : List ℕ) → AllByRecursion IsDigit digits →
    AllByRecursion IsBlank behind → 1 ≤ count + length digits
    → count + length digits ≤ FIELD_DIGITS → magnitude count value (digits ++ behind) ≡ Some (number_from value digits)
unfolding magnitude
magnitude_read count value [] behind are_digits blank some few = ends_read count value behind blank (omega arith)
magnitude_read count value (c ∷ cs) behind are_digits blank some few =
    let room : (count == FIELD_DIGITS) ≡ false = ne_eqb count FIELD_DIGITS (λ same. omega arith) in
    rw (
      is_digit c are_digits.0,
      room,
    ) (magnitude_read (count + 1) (10 * value + digit_value c) cs behind are_digits.1 blank (omega arith)
    (omega arith))

-- ---- signs

-- perhaps a sign, digits, and blanks
record IsSigned (text : List ℕ) (number : ℤ) : Type 0 where
  sign : Sign
  digits : List ℕ
  behind : List ℕ
  are_digits : AllByRecursion IsDigit digits
  blank : AllByRecursion IsBlank behind
  some : 1 ≤ length digits
  few : length digits ≤ FIELD_DIGITS
  text_is : text ≡ sign_text sign ++ (digits ++ behind)
  number_is : number ≡ signed (is_minus sign) (number_from 0 digits)

with_this : (sign : Sign) (rest text : List ℕ) (number : ℤ) → text ≡ sign_text sign ++ rest
    → option_map (signed (is_minus sign)) (magnitude 0 0 rest) ≡ Some number → IsSigned text number
with_this sign rest text number same h = go (magnitude 0 0 rest) refl h
  where
    go : (o : Option ℕ) → magnitude 0 0 rest ≡ o → option_map (signed (is_minus sign)) o ≡ Some number →
        IsSigned text number
    go None e h = absurd cc
    go (Some n) e h =
        let ends = magnitude_is 0 0 rest n (omega arith) e in
        let some = ends.some in
        let few = ends.few in
        record {
          sign = sign;
          digits = ends.digits;
          behind = ends.behind;
          are_digits = ends.are_digits;
          blank = ends.blank;
          some = omega arith;
          few = omega arith;
          text_is = same ∙ ap (λ (t : List ℕ). sign_text sign ++ t) ends.text_is;
          number_is = sym (same_Some _ _ h) ∙ ap (signed (is_minus sign)) ends.number_is;
        }

number_is_signed : (text : List ℕ) (number : ℤ) → number_in text ≡ Some number → IsSigned text number
unfolding number_in
number_is_signed [] number h = absurd cc
number_is_signed (c ∷ cs) number h = elim (cases_Bool (c == minus_sign)) [
  | inl minus ↦ with_this Minus cs (c ∷ cs) number (ap (λ n. n ∷ cs) (eqb-true c minus_sign minus)) (rw minus at h)
  | inr not_minus ↦ elim (cases_Bool (c == plus_sign)) [
    | inl plus ↦ with_this Plus cs (c ∷ cs) number (ap (λ n. n ∷ cs) (eqb-true c plus_sign plus))
        (rw (not_minus, plus) at h)
    | inr not_plus ↦ with_this Bare (c ∷ cs) (c ∷ cs) number refl (rw (not_minus, not_plus) at h)
  ]
]

signed_number_read : (sign : Sign) (digits behind : List ℕ) → AllByRecursion IsDigit digits →
    AllByRecursion IsBlank behind → 1 ≤ length digits → length digits ≤ FIELD_DIGITS
    → number_in (sign_text sign ++ (digits ++ behind)) ≡ Some (signed (is_minus sign) (number_from 0 digits))
unfolding number_in
signed_number_read Minus digits behind are_digits blank some few =
    rw (magnitude_read 0 0 digits behind are_digits blank (omega arith) (omega arith)) refl
signed_number_read Plus digits behind are_digits blank some few =
    rw (magnitude_read 0 0 digits behind are_digits blank (omega arith) (omega arith)) refl
signed_number_read Bare [] behind are_digits blank some few = absurd (omega arith)
signed_number_read Bare (d ∷ ds) behind are_digits blank some few =
    let low = are_digits.0.0 in
    let not_minus : (d == minus_sign) ≡ false = ne_eqb d minus_sign (λ same. omega arith) in
    let not_plus : (d == plus_sign) ≡ false = ne_eqb d plus_sign (λ same. omega arith) in
    rw (not_minus, not_plus) (rw (magnitude_read 0 0 (d ∷ ds) behind are_digits blank (omega arith) (omega arith)) refl)

-- a sign and a digit are no blanks
sign_stays : (sign : Sign) (digits behind : List ℕ) → AllByRecursion IsDigit digits → 1 ≤ length digits
    → skipped (sign_text sign ++ (digits ++ behind)) ≡ sign_text sign ++ (digits ++ behind)
sign_stays Minus digits behind are_digits some = nothing_skipped minus_sign (digits ++ behind) refl
sign_stays Plus digits behind are_digits some = nothing_skipped plus_sign (digits ++ behind) refl
sign_stays Bare [] behind are_digits some = absurd (omega arith)
sign_stays Bare (d ∷ ds) behind are_digits some = nothing_skipped d (ds ++ behind) (digit_is_no_blank d are_digits.0)

-- ---- fields

pub field_is : (field : List ℕ) (number : ℤ) → field_value field ≡ Some number → IsField field number
field_is field number h =
    let front = skips field in
    let rest = number_is_signed (skipped field) number h in
    record {
      before = front.before;
      sign = rest.sign;
      digits = rest.digits;
      behind = rest.behind;
      front_blank = front.blank;
      end_blank = rest.blank;
      are_digits = rest.are_digits;
      some = rest.some;
      few = rest.few;
      text = front.text_is ∙ ap (λ (t : List ℕ). front.before ++ t) rest.text_is;
      value = rest.number_is;
    }

pub field_read : (field : List ℕ) (number : ℤ) → IsField field number → field_value field ≡ Some number
field_read field number f =
    let rest : List ℕ = sign_text f.sign ++ (f.digits ++ f.behind) in
    let here : skipped field ≡ rest = ap skipped f.text ∙ skipped_blanks f.before rest f.front_blank
    ∙ sign_stays f.sign f.digits f.behind f.are_digits f.some in
    let read : number_in rest ≡ Some (signed (is_minus f.sign) (number_from 0 f.digits)) =
    signed_number_read f.sign f.digits f.behind f.are_digits f.end_blank f.some f.few in
    ap number_in here ∙ read ∙ ap (λ (z : ℤ). Some z) (sym f.value)

pub read_exactly : FieldLaw
read_exactly field number = (field_is field number, field_read field number)
