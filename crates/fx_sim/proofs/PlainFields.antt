-- The fields of plain lines.
use Rattle.std.proofs.Common.{◌≡◌, ◌+◌, ◌*◌, ◌≤◌, ◌<◌, ◌∙◌, ℕ, suc, ℤ, pos, neg_ℤ, true, List, []}
use Rattle.std.proofs.Common.{◌∷◌, ◌++◌, length, get_or, take, drop, refl, sym, ap, arith, inl, inr, subst}
use Rattle.std.proofs.Common.{length-take-le, take-append-drop}
use Rattle.std.specs.List.{AllByRecursion}
use Rattle.std.proofs.lemmas.List.{append-nil, take_more}
use Rattle.fx_nums.specs.Signs.{Bare, Minus, digit_value, IsDigit, minus_sign, number_from}
use Rattle.fx_sim.specs.declared.field.TheConstants.{FIELD_DIGITS}
use Rattle.fx_sim.specs.Fields.{IsField}
use Rattle.fx_sim.specs.Plain.{IsPlain, BeginsWithWord}
use Rattle.fx_sim.specs.Samples.{is_word}
use Rattle.fx_sim.proofs.Moments.{word_fits}

-- ---- digits

all_with : (digits : List ℕ) (c : ℕ) → AllByRecursion IsDigit digits → IsDigit c →
    AllByRecursion IsDigit (digits ++ c ∷ [])
all_with [] c all digit = (digit, tt)
all_with (d ∷ ds) c all digit = (all.0, all_with ds c all.1 digit)

number_with : (n : ℕ) (digits : List ℕ) (c : ℕ)
    → number_from n (digits ++ c ∷ []) ≡ 10 * number_from n digits + digit_value c
number_with n [] c = refl
number_with n (d ∷ ds) c = number_with (10 * n + digit_value d) ds c

pub digits_more : (text : List ℕ) (i : ℕ) → i < length text → IsDigit (get_or text i 0) →
    AllByRecursion IsDigit (take i text) → AllByRecursion IsDigit (take (i + 1) text)
digits_more text i below digit all =
    subst (AllByRecursion IsDigit) (sym (take_more text i 0 below)) (all_with (take i text) (get_or text i 0) all digit)

pub number_more : (text : List ℕ) (i : ℕ) → i < length text
    → number_from 0 (take (i + 1) text) ≡ 10 * number_from 0 (take i text) + digit_value (get_or text i 0)
number_more text i below =
    ap (number_from 0) (take_more text i 0 below) ∙ number_with 0 (take i text) (get_or text i 0)

-- ---- fields

pub digits_plain : (digits : List ℕ) → AllByRecursion IsDigit digits → AllByRecursion IsPlain digits
digits_plain [] all = tt
digits_plain (d ∷ ds) all = (inr all.0, digits_plain ds all.1)

pub bare_field : (digits : List ℕ) → AllByRecursion IsDigit digits → 1 ≤ length digits → length digits ≤ FIELD_DIGITS →
    IsField digits (pos (number_from 0 digits))
bare_field digits all some few = record {
  before = [];
  sign = Bare;
  digits = digits;
  behind = [];
  front_blank = tt;
  end_blank = tt;
  are_digits = all;
  some = some;
  few = few;
  text = sym (append-nil digits);
  value = refl;
}

pub minus_field : (digits : List ℕ) → AllByRecursion IsDigit digits → 1 ≤ length digits →
    length digits ≤ FIELD_DIGITS → IsField (minus_sign ∷ digits) (neg_ℤ (pos (number_from 0 digits)))
minus_field digits all some few = record {
  before = [];
  sign = Minus;
  digits = digits;
  behind = [];
  front_blank = tt;
  end_blank = tt;
  are_digits = all;
  some = some;
  few = few;
  text = ap (λ (t : List ℕ). minus_sign ∷ t) (sym (append-nil digits));
  value = refl;
}

-- a bare number at the front of a text
pub record Leads (text : List ℕ) (count : ℕ) (number : ℤ) : Type 0 where
  pub plain : AllByRecursion IsPlain (take count text)
  pub value : IsField (take count text) number

pub bare_leads : (text digits : List ℕ) (value count : ℕ) → text ≡ digits → AllByRecursion IsDigit (take count digits)
    → value ≡ number_from 0 (take count digits)
    → 1 ≤ count → count ≤ FIELD_DIGITS → count ≤ length digits → Leads text count (pos value)
bare_leads text digits value count same all is some few within =
    let long = length-take-le count digits within in
    rw (same, is) (record {
      plain = digits_plain (take count digits) all;
      value = bare_field (take count digits) all (omega (arith, long)) (omega (arith, long));
    })

-- a number behind a minus at the front of a text
pub minus_leads : (text digits : List ℕ) (value count : ℕ) → text ≡ minus_sign ∷ digits →
    AllByRecursion IsDigit (take count digits) → value ≡ number_from 0 (take count digits)
    → 1 ≤ count → count ≤ FIELD_DIGITS → count ≤ length digits → Leads text (count + 1) (neg_ℤ (pos value))
minus_leads text digits value count same all is some few within =
    let long = length-take-le count digits within in
    let next : count + 1 ≡ suc count = omega arith in
    rw (same, is, next) (record {
      plain = (inl refl, digits_plain (take count digits) all);
      value = minus_field (take count digits) all (omega (arith, long)) (omega (arith, long));
    })

pub begins_with : (text : List ℕ) (width : ℕ) (word : ℤ) (count : ℕ) → 1 ≤ count → count ≤ length text →
    AllByRecursion IsPlain (take count text)
    → IsField (take count text) word → is_word width word ≡ true → BeginsWithWord text width word (drop count text)
begins_with text width word count some within plain value fits =
    let long = length-take-le count text within in
    record {
      field = take count text;
      parts = sym (take-append-drop count text);
      some = omega (arith, long);
      plain = plain;
      value = value;
      fits = word_fits width word fits;
    }
