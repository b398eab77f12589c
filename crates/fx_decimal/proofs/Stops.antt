-- A reading that stops at a byte stops there whatever follows it, and a digit can stand in place of the byte.
use Rattle.std.proofs.Common.{◌≡◌, ◌⊎◌, ◌&&◌, ◌∙◌, ℕ, true, false, List, [], ◌∷◌, ◌++◌, length, append_assoc}
use Rattle.std.proofs.Common.{Option, Some, None, Result, Ok, Err, refl, sym, ap, subst, inl, inr}
use Rattle.std.proofs.lemmas.Bool.{cases_Bool}
use Rattle.std.proofs.lemmas.List.{append-nil}
use Rattle.std.specs.List.{AllByRecursion}
use Rattle.std.specs.Prelude.{IsErr}
use Rattle.fx_decimal.specs.Continued.{IsNumeralText}
use Rattle.fx_decimal.specs.Faults.{after_in, and_then, digits_in, ended, is_end, parts_in, sign_in, stop}
use Rattle.fx_nums.specs.Signs.{IsDigit, Sign, sign_text}
use Rattle.fx_decimal.specs.Numeral.{Exponent, IsExponent, Parts, after_digits, after_text, exponent_text}
use Rattle.fx_decimal.specs.declared.fault.DecimalFault.{DecimalFault}
use Rattle.fx_decimal.proofs.Digits.{front_all}
use Rattle.fx_decimal.proofs.KeptLaws.{all_on}
use Rattle.fx_decimal.proofs.ReadingLaws.{after_stands, digits_stand, sign_stands, some_digits}
use Rattle.fx_decimal.proofs.Alike.{digits_alike, sign_alike, after_alike, err_is, ExponentStops, some_behind}
use Rattle.fx_decimal.proofs.Alike.{zero_behind, exponent_stops}

-- the text stops at the rest, also where other bytes follow the first of the rest; before it a zero can stand last
pub record Stops (text : List ℕ) (f : DecimalFault) : Type 0 where
  pub front : List ℕ
  pub rest : List ℕ
  pub stands : text ≡ front ++ rest
  pub fault : f ≡ stop (length text) rest
  pub again : (c : ℕ) (cs more : List ℕ) → rest ≡ c ∷ cs → IsErr (parts_in (front ++ (c ∷ more)))
  pub goes_on : IsNumeralText (front ++ (48 ∷ []))

-- a text up to its exponent, and bytes of the exponent
abbrev pub front_of : Sign → List ℕ → Option (List ℕ) → List ℕ → List ℕ
front_of s whole a u = sign_text s ++ (whole ++ (after_text a ++ u))

pub front_behind : (s : Sign) (whole : List ℕ) (a : Option (List ℕ)) (u z : List ℕ) →
    front_of s whole a u ++ z ≡ front_of s whole a (u ++ z)
front_behind s whole a u z =
    append_assoc (sign_text s) (whole ++ (after_text a ++ u)) z
    ∙ ap (λ (t : List ℕ). sign_text s ++ t) (append_assoc whole (after_text a ++ u) z)
    ∙ ap (λ (t : List ℕ). sign_text s ++ (whole ++ t)) (append_assoc (after_text a) u z)

-- a digit more makes a numeral of what has no exponent
pub digit_more : (s : Sign) (whole : List ℕ) (a : Option (List ℕ)) → AllByRecursion IsDigit whole →
    AllByRecursion IsDigit (after_digits a) → IsNumeralText (front_of s whole a (48 ∷ []))
digit_more s whole None w h =
    record {
      parts = record { sign = s; whole = whole ++ (48 ∷ []); after = None; exponent = None };
      proper = record {
        digits =
            record {
              some = rw (append-nil (whole ++ (48 ∷ []))) (some_behind whole);
              all =
                  all_on (whole ++ (48 ∷ [])) [] (zero_behind whole w) tt;
            };
        exponent = tt;
      };
      stands = rw (append-nil (whole ++ (48 ∷ []))) refl;
    }
digit_more s whole (Some ds) w h =
    record {
      parts = record { sign = s; whole = whole; after = Some (ds ++ (48 ∷ [])); exponent = None };
      proper = record {
        digits =
            record {
              some = rw (sym (append_assoc whole ds (48 ∷ []))) (some_behind (whole ++ ds));
              all =
                  all_on whole (ds ++ (48 ∷ [])) w (zero_behind ds h);
            };
        exponent = tt;
      };
      stands = rw (append-nil (ds ++ (48 ∷ []))) refl;
    }

-- what was read up to a byte is read so before all that begins with this byte
pub read_alike : (text u : List ℕ) (x : ℕ) (xs more : List ℕ) →
    (after_in (digits_in (sign_in text).1).1).1 ≡ u ++ (x ∷ xs) →
    let s = sign_in text in let w = digits_in s.1 in let a = after_in w.1 in let read =
    front_of s.0 w.0 a.0 (u ++ (x ∷ more)) in
    parts_in read ≡ ended (length read) s.0 w.0 (a.0, u ++ (x ∷ more))
unfolding parts_in
read_alike text u x xs more h =
    let s = sign_in text in
    let w = digits_in s.1 in
    let a = after_in w.1 in
    let v = after_text a.0 ++ u in
    let behind : w.1 ≡ v ++ (x ∷ xs) = (after_stands w.1).stands ∙ ap (λ (t : List ℕ). after_text a.0 ++ t) h
    ∙ sym (append_assoc (after_text a.0) u (x ∷ xs)) in
    let whole : s.1 ≡ (w.0 ++ v) ++ (x ∷ xs) = digits_stand s.1 ∙ ap (λ (t : List ℕ). w.0 ++ t) behind
    ∙ sym (append_assoc w.0 v (x ∷ xs)) in
    let joined : v ++ (x ∷ more) ≡ after_text a.0 ++ (u ++ (x ∷ more)) = append_assoc (after_text a.0) u (x ∷ more) in
    let all : (w.0 ++ v) ++ (x ∷ more) ≡ w.0 ++ (after_text a.0 ++ (u ++ (x ∷ more))) =
    append_assoc w.0 v (x ∷ more) ∙ ap (λ (t : List ℕ). w.0 ++ t) joined in
    let sign = subst (λ (t : List ℕ). sign_in (sign_text s.0 ++ t) ≡ (s.0, t)) all
    (sign_alike text (w.0 ++ v) x xs more whole) in
    let digits = subst (λ (t : List ℕ). digits_in (w.0 ++ t) ≡ (w.0, t)) joined (digits_alike s.1 v x xs more behind) in
    let after = after_alike w.1 u x xs more h in
    let n = length (front_of s.0 w.0 a.0 (u ++ (x ∷ more))) in
    ap (λ (p : Sign × List ℕ). ended n p.0 (digits_in p.1).0 (after_in (digits_in p.1).1)) sign
    ∙ ap (λ (q : List ℕ × List ℕ). ended n s.0 q.0 (after_in q.1)) digits
    ∙ ap (λ (r : Option (List ℕ) × List ℕ). ended n s.0 w.0 r) after

pub err_through : {A B E : Type 0} (f : A → Result B E) (r : Result A E) → IsErr r → IsErr (and_then f r)
err_through f (Ok x) h = absurd cc
err_through f (Err e) h = refl

pub err_before : {A B E : Type 0} (f : A → B) (r : Result A E) (e : E) → and_then (λ x. Ok (f x)) r ≡ Err e → r ≡ Err e
err_before f (Ok x) e h = absurd cc
err_before f (Err g) e h = cc

pub text_stands : (text u rest : List ℕ) → (after_in (digits_in (sign_in text).1).1).1 ≡ u ++ rest →
    let s = sign_in text in let w = digits_in s.1 in let a = after_in w.1 in
    text ≡ front_of s.0 w.0 a.0 u ++ rest
text_stands text u rest h =
    let s = sign_in text in
    let w = digits_in s.1 in
    let a = after_in w.1 in
    sign_stands text ∙ ap (λ (t : List ℕ). sign_text s.0 ++ t) (digits_stand s.1
    ∙ ap (λ (t : List ℕ). w.0 ++ t) ((after_stands w.1).stands ∙ ap (λ (t : List ℕ). after_text a.0 ++ t) h))
    ∙ sym (front_behind s.0 w.0 a.0 u rest)

-- what was read up to the exponent
module _ (text : List ℕ) (f : DecimalFault) where
  -- the text stops before any digit
  pub stops_bare : (is_end (digits_in (sign_in text).1).0
      && is_end (after_digits (after_in (digits_in (sign_in text).1).1).0)) ≡ true →
      f ≡ stop (length text) (after_in (digits_in (sign_in text).1).1).1 → Stops text f
  stops_bare test fault =
      let s = sign_in text in
      let w = digits_in s.1 in
      let a = after_in w.1 in
      record {
        front = front_of s.0 w.0 a.0 [];
        rest = a.1;
        stands = text_stands text [] a.1 refl;
        fault = fault;
        again = λ x xs more same.
            rw (front_behind s.0 w.0 a.0 [] (x ∷ more), read_alike text [] x xs more same, test) refl;
        goes_on = rw (front_behind s.0 w.0 a.0 [] (48 ∷ []))
            (digit_more s.0 w.0 a.0 (front_all s.1) (after_stands w.1).all);
      }

  -- an exponent behind digits goes on
  pub exponent_goes_on : (is_end (digits_in (sign_in text).1).0
      && is_end (after_digits (after_in (digits_in (sign_in text).1).1).0)) ≡ false → (u : List ℕ) →
      (u ≡ []) ⊎ ((e : Exponent) × (IsExponent (Some e)) × (u ++ (48 ∷ []) ≡ exponent_text (Some e))) →
      IsNumeralText (front_of (sign_in text).0 (digits_in (sign_in text).1).0
      (after_in (digits_in (sign_in text).1).1).0 (u ++ (48 ∷ [])))
  exponent_goes_on test u (inl none) =
      let s = sign_in text in
      let w = digits_in s.1 in
      let a = after_in w.1 in
      rw none (digit_more s.0 w.0 a.0 (front_all s.1) (after_stands w.1).all)
  exponent_goes_on test u (inr (e, proper, same)) =
      let s = sign_in text in
      let w = digits_in s.1 in
      let a = after_in w.1 in
      record {
        parts = record { sign = s.0; whole = w.0; after = a.0; exponent = Some e };
        proper = record {
          digits =
              record {
                some = some_digits w.0 (after_digits a.0) test;
                all =
                    all_on w.0 (after_digits a.0) (front_all s.1) (after_stands w.1).all;
              };
          exponent = proper;
        };
        stands = ap (λ (t : List ℕ). front_of s.0 w.0 a.0 t) same;
      }

  -- the text stops in its exponent
  pub stops_behind : (is_end (digits_in (sign_in text).1).0
      && is_end (after_digits (after_in (digits_in (sign_in text).1).1).0)) ≡ false →
      ExponentStops (length text) (after_in (digits_in (sign_in text).1).1).1 f → Stops text f
  stops_behind test x =
      let s = sign_in text in
      let w = digits_in s.1 in
      let a = after_in w.1 in
      record {
        front = front_of s.0 w.0 a.0 x.front;
        rest = x.rest;
        stands = text_stands text x.front x.rest x.stands;
        fault = x.fault;
        again = λ c cs more same.
            rw (
              front_behind s.0 w.0 a.0 x.front (c ∷ more),
              read_alike text x.front c cs more (x.stands ∙ ap (λ (t : List ℕ). x.front ++ t) same),
              test,
            ) (err_through _ _ (x.again c cs more same _));
        goes_on = rw (front_behind s.0 w.0 a.0 x.front (48 ∷ [])) (exponent_goes_on test x.front x.goes_on);
      }

pub stops : (text : List ℕ) (f : DecimalFault) → parts_in text ≡ Err f → Stops text f
unfolding parts_in
stops text f h =
    let n = length text in
    let s = sign_in text in
    let w = digits_in s.1 in
    let a = after_in w.1 in
    let test = is_end w.0 && is_end (after_digits a.0) in
    elim (cases_Bool test) [
      | inl bare ↦
          let e : ◌≡◌ {A = Result Parts DecimalFault} (Err (stop n a.1)) (Err f) = rw bare at h in
          stops_bare text f bare (err_is _ f e)
      | inr some ↦ stops_behind text f some (exponent_stops n a.1 f (err_before _ _ f (rw some at h)))
    ]
