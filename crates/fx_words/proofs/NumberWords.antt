-- What `parse` reads of digits is their number.
use Rattle.std.proofs.Common.{◌≡◌, ◌∙◌, refl, sym, ap, ℕ, ◌^◌, ◌<◌, ◌≤◌, nat_lt, arith, true, false, List, []}
use Rattle.std.proofs.Common.{◌∷◌, length, Some, None, Result, Ok, Err, inl, inr}
use Rattle.std.specs.Result.{OkIff, result_ok}
use Rattle.std.specs.Str.{all_ascii_digits}
use Rattle.std.specs.Str.Parse.{ParsesUnsigned, digits_value}
use Rattle.std.proofs.lemmas.Bool.{cases_lt, cond-false, cond-true, le-leb, le-ltb, lt-ltb}
use Rattle.std.proofs.lemmas.Str.Parse.{numerals_by_value, parse_digits, tells_all_ascii_digits}
use Rattle.fx_words.specs.Number.{is_number, number_of}

-- some digits, at most 10
is_number_by : (word : List ℕ) → all_ascii_digits word ≡ true → length word ≤ 10 → 0 < length word →
    is_number word ≡ nat_lt (digits_value 10 word) (2 ^ 32)
is_number_by word digits short some =
    rw (le-leb 1 (length word) (omega (arith, some)), le-leb (length word) 10 short, digits) refl

is_too_great : (word : List ℕ) → all_ascii_digits word ≡ true → length word ≤ 10 →
    ((0 < length word) × (digits_value 10 word < 2 ^ 32) → ⊥) → is_number word ≡ false
is_too_great [] digits short fails = refl
is_too_great (c ∷ cs) digits short fails = elim (cases_lt (digits_value 10 (c ∷ cs)) (2 ^ 32)) [
  | inl small ↦ absurd (fails (omega arith, small))
  | inr great ↦ is_number_by (c ∷ cs) digits short (omega arith)
      ∙ le-ltb (digits_value 10 (c ∷ cs)) (2 ^ 32) great
]

by_digits : {E : Type 0} (word : List ℕ) (r : Result ℕ E) → all_ascii_digits word ≡ true → length word ≤ 10 →
    OkIff r ((0 < length word) × (digits_value 10 word < 2 ^ 32)) (digits_value 10 word) →
    result_ok r ≡ number_of word
by_digits word (Ok x) digits short h =
    ap Some h.1
    ∙ sym (cond-true (is_number word) (Some (digits_value 10 word)) None
    (is_number_by word digits short h.0.0 ∙ lt-ltb (digits_value 10 word) (2 ^ 32) h.0.1))
by_digits word (Err e) digits short h =
    sym (cond-false (is_number word) (Some (digits_value 10 word)) None (is_too_great word digits short h))

pub parsed : {E : Type 0} (word : List ℕ) (r : Result ℕ E) → all_ascii_digits word ≡ true → length word ≤ 10 →
    ParsesUnsigned 32 10 word r → result_ok r ≡ number_of word
parsed word r digits short h =
    by_digits word r digits short
    (parse_digits (numerals_by_value (λ ds. all_ascii_digits ds ≡ true) tells_all_ascii_digits) 32 word r h digits)
