-- Bytes at the front of a text that pass a test, and the classes of bytes.
use Rattle.std.proofs.Common.{◌≡◌, ◌≤◌, ◌<◌, ◌+◌, ◌^◌, ◌%◌, ℕ, suc, Bool, true, false, List, [], ◌∷◌, ◌++◌}
use Rattle.std.proofs.Common.{decimal, length, take, refl, ap, arith, inl, inr}
use Rattle.std.proofs.lemmas.Bool.{cases_Bool, and_parts, le-leb}
use Rattle.std.proofs.lemmas.Bool.Decides.{nat_tests}
use Rattle.std.proofs.lemmas.Fmt.{decimal_by_steps_wide}
use Rattle.std.proofs.lemmas.List.Folds.{list_all-append}
use Rattle.std.specs.List.{list_all}
use Rattle.fx_nums.specs.Signs.{digit_nine, digit_zero, is_blank, is_digit}
use Rattle.fx_text.specs.Tokens.{is_letter, is_word, begins}
use Rattle.fx_text.specs.TokenReading.{front_len}

-- ---- the bytes at the front

pub front_all : (test : ℕ → Bool) (text : List ℕ) → list_all test (take (front_len test text) text) ≡ true
unfolding front_len
front_all test [] = refl
front_all test (c ∷ cs) = elim (cases_Bool (test c)) [
  | inl yes_test ↦ rw (yes_test, yes_test) (front_all test cs)
  | inr no_test ↦ rw no_test refl
]

pub front_len_le : (test : ℕ → Bool) (text : List ℕ) → front_len test text ≤ length text
unfolding front_len
front_len_le test [] = omega arith
front_len_le test (c ∷ cs) =
    let rest = front_len_le test cs in
    elim (cases_Bool (test c)) [
      | inl yes_test ↦ rw yes_test (omega arith)
      | inr no_test ↦ rw no_test (omega arith)
    ]

pub front_again : (test : ℕ → Bool) (w rest : List ℕ) → list_all test w ≡ true → begins test rest ≡ false →
    front_len test (w ++ rest) ≡ length w
unfolding front_len
front_again test [] [] all stop = refl
front_again test [] (c ∷ cs) all stop = rw stop refl
front_again test (c ∷ w) rest all stop =
    let parts = and_parts (test c) (list_all test w) all in
    rw parts.0 (ap suc (front_again test w rest parts.1 stop))

-- what follows does not pass, if the front is no longer
pub front_exact : (test : ℕ → Bool) (w rest : List ℕ) → list_all test w ≡ true →
    front_len test (w ++ rest) ≡ length w → begins test rest ≡ false
unfolding front_len
front_exact test [] [] all e = refl
front_exact test [] (c ∷ cs) all e = elim (cases_Bool (test c)) [
  | inl yes_test ↦ let more : suc (front_len test cs) ≡ 0 = rw yes_test at e in absurd (omega arith)
  | inr no_test ↦ no_test
]
front_exact test (c ∷ w) rest all e =
    let parts = and_parts (test c) (list_all test w) all in
    let more : suc (front_len test (w ++ rest)) ≡ suc (length w) = rw parts.0 at e in
    front_exact test w rest parts.1 (omega arith)

-- the front passes, if it is that long
pub front_passes : (test : ℕ → Bool) (w rest : List ℕ) → front_len test (w ++ rest) ≡ length w → list_all test w ≡ true
unfolding front_len
front_passes test [] rest e = refl
front_passes test (c ∷ w) rest e = elim (cases_Bool (test c)) [
  | inl yes_test ↦ let more : suc (front_len test (w ++ rest)) ≡ suc (length w) =
      rw yes_test at e in rw yes_test (front_passes test w rest (omega arith))
  | inr no_test ↦ let more : 0 ≡ suc (length w) = rw no_test at e in absurd (omega arith)
]

-- ---- classes

pub letter_word : (c : ℕ) → is_letter c ≡ true → is_word c ≡ true
letter_word c h = rw h refl

pub letter_not_blank : (c : ℕ) → is_letter c ≡ true → is_blank c ≡ false
letter_not_blank c h = grind (arith, nat_tests, h)

pub digit_not_letter : (c : ℕ) → is_digit c ≡ true → is_letter c ≡ false
digit_not_letter c h = grind (arith, nat_tests, h)

pub digit_not_blank : (c : ℕ) → is_digit c ≡ true → is_blank c ≡ false
digit_not_blank c h = grind (arith, nat_tests, h)

pub digit_word : (c : ℕ) → is_digit c ≡ true → is_word c ≡ true
digit_word c h = elim (cases_Bool (is_letter c)) [
  | inl letter ↦ rw letter refl
  | inr other ↦ rw (other, h) refl
]

-- ---- decimals

pub record IsDigits (ds : List ℕ) : Type 0 where
  pub some : begins is_digit ds ≡ true
  pub all : list_all is_digit ds ≡ true

digit_of : (m : ℕ) → m < 10 → is_digit (digit_zero + m) ≡ true
digit_of m one = rw (
  le-leb digit_zero (digit_zero + m) (omega arith),
  le-leb (digit_zero + m) digit_nine (omega arith),
) refl

begins-append : (ds rest : List ℕ) → begins is_digit ds ≡ true → begins is_digit (ds ++ rest) ≡ true
begins-append [] rest h = absurd cc
begins-append (c ∷ cs) rest h = h

pub decimal_digits : (n : ℕ) → n < 10 ^ 64 → IsDigits (decimal n)
decimal_digits = decimal_by_steps_wide (λ n ds. IsDigits ds)
    (λ m one. record { some = digit_of m one; all = rw (digit_of m one) refl })
    (λ m ds ten before.
    let last : is_digit (digit_zero + m % 10) ≡ true = digit_of (m % 10) (omega arith) in
    record {
      some = begins-append ds ((digit_zero + m % 10) ∷ []) before.some;
      all = rw (list_all-append is_digit ds ((digit_zero + m % 10) ∷ []), before.all, last) refl;
    })

pub digits_words : (ds : List ℕ) → list_all is_digit ds ≡ true → list_all is_word ds ≡ true
digits_words [] h = refl
digits_words (d ∷ ds) h =
    let parts = and_parts (is_digit d) (list_all is_digit ds) h in
    rw (digit_word d parts.0) (digits_words ds parts.1)
