-- Each part of a numeral is read alike up to a byte, whatever follows this byte.
use Rattle.std.proofs.Common.{◌≡◌, ◌⊎◌, ◌≤◌, ◌==◌, ◌||◌, not, ◌∙◌, ℕ, Bool, true, false, cond, List, [], ◌∷◌}
use Rattle.std.proofs.Common.{◌++◌, length, length-append, append_assoc, Option, Some, None, Result, Ok, Err}
use Rattle.std.proofs.Common.{refl, sym, ap, subst, arith, lit≤, inl, inr}
use Rattle.std.proofs.lemmas.Bool.{cases_Bool}
use Rattle.std.proofs.lemmas.List.{drop_at}
use Rattle.std.proofs.lemmas.List.Sums.{take_while-cons}
use Rattle.std.specs.Char.{is_ascii_digit}
use Rattle.std.specs.List.{AllByRecursion}
use Rattle.std.specs.Prelude.{IsErr, is_err}
use Rattle.fx_nums.specs.Whole.{begins_with_digit}
use Rattle.fx_decimal.specs.Faults.{after_in, digits_in, exponent_digits, exponent_in, front_digits, is_end}
use Rattle.fx_decimal.specs.Faults.{sign_in, stop}
use Rattle.fx_nums.specs.Signs.{Bare, IsDigit, Minus, Plus, Sign, sign_text}
use Rattle.fx_decimal.specs.Numeral.{Exponent, IsExponent, after_text, exponent_text}
use Rattle.fx_decimal.specs.declared.fault.DecimalFault.{DecimalFault}
use Rattle.fx_decimal.proofs.Digits.{front_all}
use Rattle.fx_decimal.proofs.KeptLaws.{all_on}
use Rattle.fx_decimal.proofs.ReadingLaws.{digits_stand, front_again, letter_is, sign_stands}

-- a text goes on alike, from its first byte on, where something stands before a byte or nothing
pub front_stops : (text : List ℕ) → begins_with_digit (digits_in text).1 ≡ false
front_stops [] = refl
front_stops (c ∷ cs) = elim (cases_Bool (is_ascii_digit c)) [
  | inl digit ↦ rw (take_while-cons is_ascii_digit c cs, digit) (front_stops cs)
  | inr other ↦ rw (take_while-cons is_ascii_digit c cs, other) other
]

pub begins_alike : (u : List ℕ) (c : ℕ) (cs more : List ℕ) → begins_with_digit (u ++ (c ∷ cs)) ≡ false →
    begins_with_digit (u ++ (c ∷ more)) ≡ false
begins_alike [] c cs more h = h
begins_alike (d ∷ ds) c cs more h = h

pub digits_alike : (text u : List ℕ) (c : ℕ) (cs more : List ℕ) → (digits_in text).1 ≡ u ++ (c ∷ cs) →
    digits_in ((digits_in text).0 ++ (u ++ (c ∷ more))) ≡ ((digits_in text).0, u ++ (c ∷ more))
digits_alike text u c cs more h =
    let rest = u ++ (c ∷ more) in
    let stops = begins_alike u c cs more (rw h at (front_stops text)) in
    let front = front_again (front_digits text) rest (front_all text) stops in
    rw (front, drop_at (front_digits text) rest (length (front_digits text)) refl) refl

pub bare_head : (c : ℕ) (cs more : List ℕ) → sign_in (c ∷ cs) ≡ (Bare, c ∷ cs) → sign_in (c ∷ more) ≡ (Bare, c ∷ more)
bare_head c cs more h = elim (cases_Bool (c == 43)) [
  | inl plus ↦ absurd (let e : ◌≡◌ {A = Sign × List ℕ} (Plus, cs) (Bare, c ∷ cs) =
      rw plus at h in let d : Plus ≡ Bare = ap (λ (x : Sign × List ℕ). x.0) e in cc)
  | inr other ↦ elim (cases_Bool (c == 45)) [
    | inl minus ↦ absurd (let e : ◌≡◌ {A = Sign × List ℕ} (Minus, cs) (Bare, c ∷ cs) =
        rw (other, minus) at h in let d : Minus ≡ Bare = ap (λ (x : Sign × List ℕ). x.0) e in cc)
    | inr neither ↦ rw (other, neither) refl
  ]
]

pub bare_alike : (u : List ℕ) (c : ℕ) (cs more : List ℕ) → sign_in (u ++ (c ∷ cs)) ≡ (Bare, u ++ (c ∷ cs)) →
    sign_in (u ++ (c ∷ more)) ≡ (Bare, u ++ (c ∷ more))
bare_alike [] c cs more h = bare_head c cs more h
bare_alike (d ∷ ds) c cs more h = bare_head d (ds ++ (c ∷ cs)) (ds ++ (c ∷ more)) h

pub sign_alike : (text u : List ℕ) (c : ℕ) (cs more : List ℕ) → (sign_in text).1 ≡ u ++ (c ∷ cs) →
    sign_in (sign_text (sign_in text).0 ++ (u ++ (c ∷ more))) ≡ ((sign_in text).0, u ++ (c ∷ more))
sign_alike [] u c cs more h = bare_alike u c cs more (rw (sym h) refl)
sign_alike (d ∷ ds) u c cs more h = elim (cases_Bool (d == 43)) [
  | inl plus ↦ rw plus refl
  | inr other ↦ elim (cases_Bool (d == 45)) [
    | inl minus ↦ rw (other, minus) refl
    | inr neither ↦
        let same : d ∷ ds ≡ u ++ (c ∷ cs) = rw (other, neither) at h in
        let bare : sign_in (d ∷ ds) ≡ (Bare, d ∷ ds) = rw (other, neither) refl in
        rw (other, neither) (bare_alike u c cs more (subst (λ (t : List ℕ). sign_in t ≡ (Bare, t)) same bare))
  ]
]

pub no_point_head : (c : ℕ) (cs more : List ℕ) → (c == 46) ≡ false → after_in (c ∷ more) ≡ (None, c ∷ more)
no_point_head c cs more h = rw h refl

pub no_point_alike : (u : List ℕ) (c d : ℕ) (cs ds more : List ℕ) → (d == 46) ≡ false →
    d ∷ ds ≡ u ++ (c ∷ cs) → after_in (u ++ (c ∷ more)) ≡ (None, u ++ (c ∷ more))
no_point_alike [] c d cs ds more h same = let e : d ≡ c = cc in no_point_head c cs more (rw e at h)
no_point_alike (x ∷ xs) c d cs ds more h same = let e : d ≡ x = cc in no_point_head x cs (xs ++ (c ∷ more)) (rw e at h)

pub point_alike : (text u : List ℕ) (c : ℕ) (cs more : List ℕ) → (digits_in text).1 ≡ u ++ (c ∷ cs) →
    after_in (46 ∷ ((digits_in text).0 ++ (u ++ (c ∷ more)))) ≡ (Some (digits_in text).0, u ++ (c ∷ more))
point_alike text u c cs more h = ap (λ (r : List ℕ × List ℕ). (Some r.0, r.1)) (digits_alike text u c cs more h)

pub after_alike : (text u : List ℕ) (c : ℕ) (cs more : List ℕ) → (after_in text).1 ≡ u ++ (c ∷ cs) →
    after_in (after_text (after_in text).0 ++ (u ++ (c ∷ more))) ≡ ((after_in text).0, u ++ (c ∷ more))
after_alike [] [] c cs more h = absurd cc
after_alike [] (x ∷ xs) c cs more h = absurd cc
after_alike (d ∷ ds) u c cs more h = elim (cases_Bool (d == 46)) [
  | inl point ↦
      let rest : (digits_in ds).1 ≡ u ++ (c ∷ cs) = rw point at h in
      rw point (point_alike ds u c cs more rest)
  | inr other ↦
      let rest : d ∷ ds ≡ u ++ (c ∷ cs) = rw other at h in
      rw other (no_point_alike u c d cs ds more other rest)
]

-- ---- an exponent

abbrev pub letter : ℕ → Bool
letter c = (c == 69) || (c == 101)

pub or_true : (b : Bool) → (b || true) ≡ true
or_true true = refl
or_true false = refl

pub err_is : {A E : Type 0} (e f : E) → ◌≡◌ {A = Result A E} (Err e) (Err f) → f ≡ e
err_is e f h = cc

pub if_err : {A E : Type 0} (b : Bool) (e f : E) (x : A) → cond b (Err e) (Ok x) ≡ Err f → f ≡ e
if_err true e f x h = err_is e f h
if_err false e f x h = absurd cc

-- in a text of n bytes the exponent stops at the rest, also where other bytes follow the first of the rest
pub record ExponentStops (n : ℕ) (text : List ℕ) (f : DecimalFault) : Type 0 where
  pub front : List ℕ
  pub rest : List ℕ
  pub stands : text ≡ front ++ rest
  pub fault : f ≡ stop n rest
  pub again : (c : ℕ) (cs more : List ℕ) → rest ≡ c ∷ cs → (m : ℕ) → IsErr (exponent_in m (front ++ (c ∷ more)))
  pub goes_on : (front ≡ []) ⊎ ((e : Exponent) × (IsExponent (Some e)) × (front ++ (48 ∷ []) ≡ exponent_text (Some e)))

-- the exponent is a fault too where other bytes follow the first that it stopped at
pub exponent_err_again : (c : ℕ) (cs : List ℕ) (x : ℕ) (xs more : List ℕ) → letter c ≡ true →
    (digits_in (sign_in cs).1).1 ≡ x ∷ xs → (m : ℕ) →
    IsErr (exponent_in m ((c ∷ (sign_text (sign_in cs).0 ++ (digits_in (sign_in cs).1).0)) ++ (x ∷ more)))
unfolding exponent_in
exponent_err_again c cs x xs more is h m =
    let s = sign_in cs in
    let read = digits_in s.1 in
    let digits = digits_alike s.1 [] x xs more h in
    let behind : s.1 ≡ read.0 ++ (x ∷ xs) = digits_stand s.1 ∙ ap (λ (t : List ℕ). read.0 ++ t) h in
    let sign = sign_alike cs read.0 x xs more behind in
    let up = c == 69 in
    let same = ap (λ (p : Sign × List ℕ). exponent_digits m up p.0 (digits_in p.1)) sign
    ∙ ap (λ (q : List ℕ × List ℕ). exponent_digits m up s.0 q) digits in
    let wrong : IsErr (exponent_digits m up s.0 (read.0, x ∷ more)) = rw (or_true (is_end read.0)) refl in
    rw (is, append_assoc (sign_text s.0) read.0 (x ∷ more))
    (ap (λ (r : Result (Option Exponent) DecimalFault). is_err r) same ∙ wrong)

pub zero_digit : IsDigit 48
zero_digit = (lit≤ tt, lit≤ tt)

pub some_behind : (a : List ℕ) → 1 ≤ length (a ++ (48 ∷ []))
some_behind a = rw (length-append a (48 ∷ [])) (omega arith)

pub zero_behind : (a : List ℕ) → AllByRecursion IsDigit a → AllByRecursion IsDigit (a ++ (48 ∷ []))
zero_behind a h = all_on a (48 ∷ []) h (zero_digit, tt)

pub exponent_stops_behind : (n c : ℕ) (cs : List ℕ) (f : DecimalFault) → letter c ≡ true →
    exponent_digits n (c == 69) (sign_in cs).0 (digits_in (sign_in cs).1) ≡ Err f → ExponentStops n (c ∷ cs) f
exponent_stops_behind n c cs f is h =
    let s = sign_in cs in
    let read = digits_in s.1 in
    let digits = read.0 ++ (48 ∷ []) in
    let e : Exponent = record { upper = c == 69; sign = s.0; digits = digits } in
    record {
      front = c ∷ (sign_text s.0 ++ read.0);
      rest = read.1;
      stands = ap (λ (t : List ℕ). c ∷ t) (sign_stands cs
          ∙ ap (λ (t : List ℕ). sign_text s.0 ++ t) (digits_stand s.1)
          ∙ sym (append_assoc (sign_text s.0) read.0 read.1));
      fault = if_err (is_end read.0 || not (is_end read.1)) _ f _ h;
      again = λ x xs more same m. exponent_err_again c cs x xs more is same m;
      goes_on = inr (
        e,
        record { some = some_behind read.0; all = zero_behind read.0 (front_all s.1) },
        ap (λ (x : ℕ). x ∷ ((sign_text s.0 ++ read.0) ++ (48 ∷ []))) (letter_is c is)
            ∙ ap (λ (t : List ℕ). cond (c == 69) 69 101 ∷ t) (append_assoc (sign_text s.0) read.0 (48 ∷ [])),
      );
    }

pub no_exponent : (c : ℕ) (more : List ℕ) → letter c ≡ false → (m : ℕ) → IsErr (exponent_in m (c ∷ more))
unfolding exponent_in
no_exponent c more other m = rw other refl

pub exponent_stops : (n : ℕ) (text : List ℕ) (f : DecimalFault) → exponent_in n text ≡ Err f → ExponentStops n text f
unfolding exponent_in
exponent_stops n [] f h = absurd cc
exponent_stops n (c ∷ cs) f h = elim (cases_Bool (letter c)) [
  | inl is ↦ exponent_stops_behind n c cs f is (rw is at h)
  | inr other ↦
      let e : ◌≡◌ {A = Result (Option Exponent) DecimalFault} (Err (stop n (c ∷ cs))) (Err f) = rw other at h in
      record {
        front = [];
        rest = c ∷ cs;
        stands = refl;
        fault = err_is _ f e;
        again = λ x xs more same m. let head : c ≡ x = cc in no_exponent x more (rw head at other) m;
        goes_on = inl refl;
      }
]
