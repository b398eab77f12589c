-- A numeral is read exactly where its text stands.
use Rattle.std.proofs.Common.{◌≡◌, ◌≤◌, ◌==◌, ◌&&◌, ◌||◌, not, ◌∙◌, ℕ, Bool, true, false, cond, List, [], ◌∷◌}
use Rattle.std.proofs.Common.{◌++◌, length, drop, take-append-drop, Option, Some, None, Result, Ok, Err, refl}
use Rattle.std.proofs.Common.{sym, ap, subst, arith, inl, inr}
use Rattle.std.proofs.lemmas.Bool.{cases_Bool, le-leb, eqb-true}
use Rattle.std.proofs.lemmas.Bool.Decides.{nat_tests}
use Rattle.std.proofs.lemmas.List.{append-nil, drop_at}
use Rattle.std.proofs.lemmas.List.Sums.{take_while-cons}
use Rattle.std.specs.Char.{is_ascii_digit}
use Rattle.std.specs.List.{AllByRecursion}
use Rattle.fx_nums.specs.Fraction.{Fraction}
use Rattle.fx_nums.specs.Whole.{begins_with_digit}
use Rattle.fx_decimal.specs.Faults.{Means, NumeralLaw, TextLaw, after_in, and_then, digits_in, exponent_digits}
use Rattle.fx_decimal.specs.Faults.{exponent_in, front_digits, is_end, numeral, parts_in, sign_in}
use Rattle.fx_nums.specs.Signs.{AreDigits, Bare, IsDigit, Minus, Plus, Sign, sign_text}
use Rattle.fx_decimal.specs.Numeral.{Exponent, IsExponent, IsNumeral, Parts, after_digits, after_text}
use Rattle.fx_decimal.specs.Numeral.{exponent_text, meaning, parts_text}
use Rattle.fx_decimal.proofs.Digits.{front_all, front_taken}
use Rattle.fx_decimal.proofs.KeptLaws.{all_on}

-- ---- what is read stands there

pub sign_stands : (text : List ℕ) → text ≡ sign_text (sign_in text).0 ++ (sign_in text).1
sign_stands [] = refl
sign_stands (c ∷ cs) = elim (cases_Bool (c == 43)) [
  | inl plus ↦ let is : c ≡ 43 = eqb-true c 43 plus in rw (plus, is) refl
  | inr other ↦ rw other (elim (cases_Bool (c == 45)) [
    | inl minus ↦ let is : c ≡ 45 = eqb-true c 45 minus in rw (minus, is) refl
    | inr neither ↦ rw neither refl
  ])
]

pub digits_stand : (text : List ℕ) → text ≡ (digits_in text).0 ++ (digits_in text).1
digits_stand text =
    let n = length (front_digits text) in
    sym (take-append-drop n text) ∙ ap (λ (t : List ℕ). t ++ drop n text) (front_taken text)

pub record AfterStands (text : List ℕ) (read : Option (List ℕ) × List ℕ) : Type 0 where
  pub stands : text ≡ after_text read.0 ++ read.1
  pub all : AllByRecursion IsDigit (after_digits read.0)

pub after_stands : (text : List ℕ) → AfterStands text (after_in text)
after_stands [] = record { stands = refl; all = tt }
after_stands (c ∷ cs) = elim (cases_Bool (c == 46)) [
  | inl point ↦
      let is : c ≡ 46 = eqb-true c 46 point in
      rw point (record { stands = rw is (ap (λ (t : List ℕ). 46 ∷ t) (digits_stand cs)); all = front_all cs })
  | inr other ↦ rw other (record { stands = refl; all = tt })
]

only_false : {A E : Type 0} (b : Bool) (e : E) (r : Result A E) (x : A) → cond b (Err e) r ≡ Ok x →
    (b ≡ false) × (r ≡ Ok x)
only_false true e r x h = absurd cc
only_false false e r x h = (refl, h)

only_true : {A E : Type 0} (b : Bool) (e : E) (r : Result A E) (x : A) → cond b r (Err e) ≡ Ok x →
    (b ≡ true) × (r ≡ Ok x)
only_true true e r x h = (refl, h)
only_true false e r x h = absurd cc

neither : (a b : Bool) → (a || not b) ≡ false → (a ≡ false) × (b ≡ true)
neither true b h = absurd cc
neither false true h = (refl, refl)
neither false false h = absurd cc

at_end : (text : List ℕ) → is_end text ≡ true → text ≡ []
at_end [] h = refl
at_end (c ∷ cs) h = absurd cc

goes_on : (text : List ℕ) → is_end text ≡ false → 1 ≤ length text
goes_on [] h = absurd cc
goes_on (c ∷ cs) h = omega arith

record ExponentStands (text : List ℕ) (e : Option Exponent) : Type 0 where
  stands : text ≡ exponent_text e
  proper : IsExponent e

same_ok : {A E : Type 0} (x y : A) → ◌≡◌ {A = Result A E} (Ok x) (Ok y) → x ≡ y
same_ok x y h = cc

letter_text : Bool → ℕ
letter_text upper = cond upper 69 101

module _ (n c : ℕ) (cs : List ℕ) (letter : c ≡ cond (c == 69) 69 101) where
  behind_stands : (e : Option Exponent) → exponent_digits n (c == 69) (sign_in cs).0 (digits_in (sign_in cs).1)
      ≡ Ok e → ExponentStands (c ∷ cs) e
  behind_stands e h =
      let sign = sign_in cs in
      let read = digits_in sign.1 in
      let (test, same) = only_false _ _ _ e h in
      let (some, last) = neither (is_end read.0) (is_end read.1) test in
      let nothing : read.1 ≡ [] = at_end read.1 last in
      let digits : sign.1 ≡ read.0 = digits_stand sign.1 ∙ rw nothing (append-nil read.0) in
      subst (λ (x : Option Exponent). ExponentStands (c ∷ cs) x) (same_ok _ e same)
      (record {
        stands = ap (λ (x : ℕ). x ∷ cs) letter ∙ ap (λ (t : List ℕ).
            cond (c == 69) 69 101 ∷ t) (sign_stands cs ∙ ap (λ (t : List ℕ). sign_text sign.0 ++ t) digits);
        proper = record { some = goes_on read.0 some; all = front_all sign.1 };
      })

pub letter_is : (c : ℕ) → ((c == 69) || (c == 101)) ≡ true → c ≡ cond (c == 69) 69 101
letter_is c h = elim (cases_Bool (c == 69)) [
  | inl upper ↦ rw upper (eqb-true c 69 upper)
  | inr other ↦ rw other (eqb-true c 101 (rw other at h))
]

exponent_stands : (n : ℕ) (text : List ℕ) (e : Option Exponent) → exponent_in n text ≡ Ok e → ExponentStands text e
unfolding exponent_in
exponent_stands n [] e h =
    subst (λ (x : Option Exponent). ExponentStands [] x) (same_ok None e h)
    (record { stands = refl; proper = tt })
exponent_stands n (c ∷ cs) e h =
    let (letter, on) = only_true _ _ _ e h in
    behind_stands n c cs (letter_is c letter) e on

and_then_ok : {A B E : Type 0} (f : A → Result B E) (r : Result A E) (y : B) → and_then f r ≡ Ok y →
    (x : A) × (r ≡ Ok x) × (f x ≡ Ok y)
and_then_ok f (Ok x) y h = (x, refl, h)
and_then_ok f (Err e) y h = absurd cc

pub some_digits : (a b : List ℕ) → (is_end a && is_end b) ≡ false → 1 ≤ length (a ++ b)
some_digits [] [] h = absurd cc
some_digits [] (c ∷ cs) h = omega arith
some_digits (c ∷ cs) b h = omega arith

pub record PartsStand (text : List ℕ) (p : Parts) : Type 0 where
  pub stands : text ≡ parts_text p
  pub proper : IsNumeral p

pub parts_stand : (text : List ℕ) (p : Parts) → parts_in text ≡ Ok p → PartsStand text p
unfolding parts_in
parts_stand text p h =
    let sign = sign_in text in
    let whole = digits_in sign.1 in
    let after = after_in whole.1 in
    let (some, on) = only_false _ _ _ p h in
    let (e, read, same) = and_then_ok _ (exponent_in (length text) after.1) p on in
    let a = after_stands whole.1 in
    let x = exponent_stands (length text) after.1 e read in
    subst (λ (q : Parts). PartsStand text q) (same_ok _ p same)
    (record {
      stands = sign_stands text
          ∙ ap (λ (t : List ℕ). sign_text sign.0 ++ t) (digits_stand sign.1
          ∙ ap (λ (t : List ℕ). whole.0 ++ t) (a.stands ∙ ap (λ (t : List ℕ). after_text after.0 ++ t) x.stands));
      proper = record {
        digits =
            record {
              some = some_digits whole.0 (after_digits after.0) some;
              all =
                  all_on whole.0 (after_digits after.0) (front_all sign.1) a.all;
            };
        exponent = x.proper;
      };
    })

-- ---- what stands there is read

digit_test : (c : ℕ) → IsDigit c → is_ascii_digit c ≡ true
digit_test c h = rw (le-leb 48 c h.0, le-leb c 57 h.1) refl

pub front_again : (ds rest : List ℕ) → AllByRecursion IsDigit ds → begins_with_digit rest ≡ false →
    front_digits (ds ++ rest) ≡ ds
front_again [] [] all h = refl
front_again [] (c ∷ cs) all h = rw (take_while-cons is_ascii_digit c cs, h) refl
front_again (c ∷ cs) rest all h =
    rw (take_while-cons is_ascii_digit c (cs ++ rest), digit_test c all.0)
    (ap (λ (t : List ℕ). c ∷ t) (front_again cs rest all.1 h))

-- a digit or a point, and no sign
abbrev begins_plain : List ℕ → Type 0
begins_plain text = sign_in text ≡ (Bare, text)

digit_plain : (c : ℕ) (cs : List ℕ) → IsDigit c → begins_plain (c ∷ cs)
digit_plain c cs h =
    let low = h.0 in
    let plus : (c == 43) ≡ false = grind (arith, nat_tests) in
    let minus : (c == 45) ≡ false = grind (arith, nat_tests) in
    rw (plus, minus) refl

sign_again : (s : Sign) (rest : List ℕ) → begins_plain rest → sign_in (sign_text s ++ rest) ≡ (s, rest)
sign_again Bare rest h = h
sign_again Plus rest h = refl
sign_again Minus rest h = refl

no_digit : (e : Option Exponent) → begins_with_digit (exponent_text e) ≡ false
no_digit None = refl
no_digit (Some e) = elim e.upper as (λ b. is_ascii_digit (cond b 69 101) ≡ false) [ true ↦ refl | false ↦ refl ]

no_point : (e : Option Exponent) → after_in (exponent_text e) ≡ (None, exponent_text e)
no_point None = refl
no_point (Some e) = elim e.upper as (λ b. after_in (cond b 69 101 ∷ (sign_text e.sign ++ e.digits))
    ≡ (None, cond b 69 101 ∷ (sign_text e.sign ++ e.digits))) [ true ↦ refl | false ↦ refl ]

after_again : (a : Option (List ℕ)) (e : Option Exponent) → AllByRecursion IsDigit (after_digits a) →
    after_in (after_text a ++ exponent_text e) ≡ (a, exponent_text e)
after_again None e all = no_point e
after_again (Some ds) e all =
    rw (front_again ds (exponent_text e) all (no_digit e), drop_at ds (exponent_text e) (length ds) refl) refl

digits_plain : (ds rest : List ℕ) → AreDigits ds → begins_plain (ds ++ rest)
digits_plain [] rest h = absurd (omega (arith, h.some))
digits_plain (c ∷ cs) rest h = let all = h.all in digit_plain c (cs ++ rest) all.0

not_end : (ds : List ℕ) → 1 ≤ length ds → is_end ds ≡ false
not_end [] h = absurd (omega arith)
not_end (c ∷ cs) h = refl

behind_again : (n : ℕ) (upper : Bool) (s : Sign) (ds : List ℕ) → AreDigits ds →
    exponent_digits n upper (sign_in (sign_text s ++ ds)).0 (digits_in (sign_in (sign_text s ++ ds)).1)
    ≡ Ok (Some (record { upper = upper; sign = s; digits = ds }))
behind_again n upper s ds h =
    let plain : begins_plain ds = rw append-nil at (digits_plain ds [] h) in
    let front : front_digits ds ≡ ds = rw append-nil at (front_again ds [] h.all refl) in
    let rest : drop (length ds) ds ≡ [] = rw append-nil at (drop_at ds [] (length ds) refl) in
    rw (sign_again s ds plain, front, rest, not_end ds h.some) refl

exponent_again : (n : ℕ) (e : Option Exponent) → IsExponent e → exponent_in n (exponent_text e) ≡ Ok e
unfolding exponent_in
exponent_again n None h = refl
exponent_again n (Some e) h =
    elim e.upper as (λ b. exponent_in n (cond b 69 101 ∷ (sign_text e.sign ++ e.digits))
    ≡ Ok (Some (record { upper = b; sign = e.sign; digits = e.digits }))) [
      | true ↦ behind_again n true e.sign e.digits h
      | false ↦ behind_again n false e.sign e.digits h
    ]

front_part : (a b : List ℕ) → AllByRecursion IsDigit (a ++ b) → AllByRecursion IsDigit a × AllByRecursion IsDigit b
front_part [] b h = (tt, h)
front_part (c ∷ cs) b h = let more = front_part cs b h.1 in ((h.0, more.0), more.1)

whole_plain : (whole : List ℕ) (a : Option (List ℕ)) (more : List ℕ) → AreDigits (whole ++ after_digits a) →
    begins_plain (whole ++ (after_text a ++ more))
whole_plain [] None more h = absurd (omega (arith, h.some))
whole_plain [] (Some ds) more h = refl
whole_plain (c ∷ cs) a more h = let all = h.all in digit_plain c (cs ++ (after_text a ++ more)) all.0

not_both : (a b : List ℕ) → 1 ≤ length (a ++ b) → (is_end a && is_end b) ≡ false
not_both [] b h = not_end b h
not_both (c ∷ cs) b h = refl

point_next : (a : Option (List ℕ)) (e : Option Exponent) → begins_with_digit (after_text a ++ exponent_text e) ≡ false
point_next None e = no_digit e
point_next (Some ds) e = refl

pub parts_again : (p : Parts) → IsNumeral p → parts_in (parts_text p) ≡ Ok p
unfolding parts_in
parts_again p h =
    let digits = h.digits in
    let all = front_part p.whole (after_digits p.after) digits.all in
    let more = after_text p.after ++ exponent_text p.exponent in
    let sign = sign_again p.sign (p.whole ++ more) (whole_plain p.whole p.after (exponent_text p.exponent) digits) in
    let whole = front_again p.whole more all.0 (point_next p.after p.exponent) in
    let rest : drop (length p.whole) (p.whole ++ more) ≡ more = drop_at p.whole more (length p.whole) refl in
    let after = after_again p.after p.exponent all.1 in
    rw (
      sign,
      whole,
      rest,
      after,
      not_both p.whole (after_digits p.after) digits.some,
      exponent_again (length (parts_text p)) p.exponent h.exponent,
    ) refl

-- ---- the laws

pub text_law : TextLaw
unfolding numeral
text_law p h = rw (parts_again p h) refl

means : (text : List ℕ) (c : Fraction) → numeral text ≡ Ok c → Means text (Ok c)
unfolding numeral
means text c h =
    let (p, read, value) = and_then_ok meaning (parts_in text) c h in
    let s = parts_stand text p read in
    record { parts = p; proper = s.proper; stands = s.stands; value = value }

pub numeral_law : NumeralLaw
numeral_law text c = (means text c, λ m. ap numeral m.stands ∙ text_law m.parts m.proper ∙ m.value)
