-- What is told of a text that is no numeral says where it stops to be one that can be continued.
use Rattle.std.proofs.Common.{◌≡◌, ◌≢◌, ◌⊎◌, ◌≤◌, ◌+◌, ◌-◌, ◌*◌, ◌^◌, ◌==◌, ◌∙◌, ℕ, ℤ, pos, negsuc, ◌+ℤ◌, ◌-ℤ◌}
use Rattle.std.proofs.Common.{Bool, List, [], ◌∷◌, ◌++◌, length, take, drop, take-append-drop, take-take}
use Rattle.std.proofs.Common.{take_at, length-append, append_assoc, Result, Ok, Err, refl, sym, ap, subst}
use Rattle.std.proofs.Common.{arith, inl, inr}
use Rattle.std.proofs.lemmas.Bool.{cases_Bool}
use Rattle.std.proofs.lemmas.Bool.Decides.{nat_tests}
use Rattle.std.proofs.lemmas.List.{append-nil}
use Rattle.std.specs.Prelude.{IsErr, nat_lt, ⊤}
use Rattle.fx_nums.specs.Fraction.{Fraction}
use Rattle.fx_nums.specs.declared.fraction.Den.TheVariants.{Ten}
use Rattle.fx_decimal.specs.Continued.{BadByteLaw, CanContinue, EmptyLaw, IsNumeralText, IsUnfinished, StopsAt}
use Rattle.fx_decimal.specs.Faults.{and_then, numeral, parts_in, stop}
use Rattle.fx_nums.specs.Signs.{is_minus, number_from, signed}
use Rattle.fx_decimal.specs.Numeral.{Parts, after_digits, all_digits, bounded, digits_value, exponent_value}
use Rattle.fx_decimal.specs.Numeral.{limited, meaning, scaled, without_zeros}
use Rattle.fx_decimal.specs.declared.fault.DecimalFault.{DecimalFault}
use Rattle.fx_decimal.specs.declared.fault.DecimalFault.TheVariants.{Empty, BadByte, TooManyDigits, TooFine, TooLarge}
use Rattle.fx_decimal.proofs.ReadingLaws.{parts_again, parts_stand}
use Rattle.fx_decimal.proofs.Alike.{err_is}
use Rattle.fx_decimal.proofs.Stops.{Stops, stops}

numeral_read : (text : List ℕ) (n : IsNumeralText text) → parts_in text ≡ Ok n.parts
numeral_read text n = ap parts_in n.stands ∙ parts_again n.parts n.proper

shorter : (a b : List ℕ) → CanContinue (a ++ b) → CanContinue a
shorter a b c = record { more = b ++ c.more; numeral = subst IsNumeralText (append_assoc a b c.more) c.numeral }

shorter_take : (m n : ℕ) (text : List ℕ) → m ≤ n → CanContinue (take n text) → CanContinue (take m text)
shorter_take m n text less c =
    let split : take n text ≡ take m text ++ drop m (take n text) =
    sym (take-append-drop m (take n text)) ∙ ap (λ (t : List ℕ).
    t ++ drop m (take n text)) (take-take m n text less) in
    shorter (take m text) (drop m (take n text)) (subst CanContinue split c)

no_err : {A E : Type 0} (r : Result A E) (x : A) → r ≡ Ok x → IsErr r → ⊥
no_err r x h e = absurd cc

-- no fault of a limit
abbrev IsOfText : DecimalFault → Type 0
IsOfText Empty = ⊤
IsOfText (BadByte place) = ⊤
IsOfText _ = ⊥

not_of_text : (e f : DecimalFault) → ◌≡◌ {A = Result Fraction DecimalFault} (Err e) (Err f) → ¬ IsOfText e →
    IsOfText f → ⊥
not_of_text e f h apart of = apart (subst (λ (x : DecimalFault). IsOfText x) (err_is e f h) of)

bounded_fault : (negative : Bool) (n d : ℕ) (f : DecimalFault) → bounded negative n d ≡ Err f → IsOfText f → ⊥
bounded_fault negative n d f h of = elim (cases_Bool (nat_lt n (2 ^ 24 * 10 ^ d))) [
  | inl small ↦ absurd (let e : ◌≡◌ {A = Result Fraction DecimalFault}
      (Ok (record { num = signed negative n; den = Ten d })) (Err f) = rw small at h in cc)
  | inr large ↦ not_of_text TooLarge f (rw large at h) (λ x. x) of
]

scaled_fault : (negative : Bool) (n : ℕ) (p : ℤ) (f : DecimalFault) → scaled negative n p ≡ Err f → IsOfText f → ⊥
scaled_fault negative n (pos p) f h of = bounded_fault negative (n * 10 ^ p) 0 f h of
scaled_fault negative n (negsuc q) f h of = elim (cases_Bool (nat_lt q 28)) [
  | inl few ↦ bounded_fault negative n (q + 1) f (rw few at h) of
  | inr many ↦ not_of_text TooFine f (rw many at h) (λ x. x) of
]

limited_fault : (negative : Bool) (n : ℕ) (p : ℤ) (f : DecimalFault) → limited negative n p ≡ Err f → IsOfText f → ⊥
limited_fault negative n p f h of = elim (cases_Bool (n == 0)) [
  | inl none ↦ absurd (let e : ◌≡◌ {A = Result Fraction DecimalFault}
      (Ok (record { num = pos 0; den = Ten 0 })) (Err f) = rw none at h in cc)
  | inr some ↦ elim (cases_Bool (nat_lt n (10 ^ 18))) [
    | inl few ↦ scaled_fault negative n p f (rw (some, few) at h) of
    | inr many ↦ not_of_text TooManyDigits f (rw (some, many) at h) (λ x. x) of
  ]
]

meaning_fault : (p : Parts) (f : DecimalFault) → meaning p ≡ Err f → IsOfText f → ⊥
unfolding digits_value
meaning_fault p f h of =
    let kept = without_zeros (length (all_digits p)) (number_from 0 (all_digits p)) in
    limited_fault (is_minus p.sign) kept.0
    ((exponent_value p.exponent -ℤ pos (length (after_digits p.after))) +ℤ pos kept.1) f h of

text_fault_of : (r : Result Parts DecimalFault) (f : DecimalFault) → and_then meaning r ≡ Err f → IsOfText f → r ≡ Err f
text_fault_of (Ok p) f h of = absurd (meaning_fault p f h of)
text_fault_of (Err e) f h of = let same : f ≡ e = err_is e f h in rw same refl

-- the faults of the text are those of its parts
text_fault : (text : List ℕ) (f : DecimalFault) → numeral text ≡ Err f → IsOfText f → parts_in text ≡ Err f
unfolding numeral
text_fault text f h of = text_fault_of (parts_in text) f h of

fault_told : (text : List ℕ) (f : DecimalFault) → parts_in text ≡ Err f → numeral text ≡ Err f
unfolding numeral
fault_told text f h = rw h refl

outcome : {A E : Type 0} (r : Result A E) → ((x : A) × (r ≡ Ok x)) ⊎ ((e : E) × (r ≡ Err e))
outcome (Ok x) = inl (x, refl)
outcome (Err e) = inr (e, refl)

whole_numeral : (text : List ℕ) (p : Parts) → parts_in text ≡ Ok p → IsNumeralText text
whole_numeral text p h = let s = parts_stand text p h in record { parts = p; proper = s.proper; stands = s.stands }

continued_numeral : (text : List ℕ) → IsNumeralText text → CanContinue text
continued_numeral text n = record { more = []; numeral = rw (append-nil text) n }

-- where nothing is left a zero goes on
at_the_end : (text : List ℕ) (f : DecimalFault) (s : Stops text f) → s.rest ≡ [] → CanContinue text
at_the_end text f s none =
    let same : text ≡ s.front = s.stands ∙ rw none (append-nil s.front) in
    rw same (record { more = 48 ∷ []; numeral = s.goes_on })

-- the byte at which a text stops cannot go on
bad_byte : (text : List ℕ) (f : DecimalFault) (s : Stops text f) (x : ℕ) (xs : List ℕ) → s.rest ≡ x ∷ xs →
    ¬ CanContinue (s.front ++ (x ∷ []))
bad_byte text f s x xs same c =
    let read : parts_in (s.front ++ (x ∷ c.more)) ≡ Ok c.numeral.parts =
    rw (append_assoc s.front (x ∷ []) c.more) at (numeral_read ((s.front ++ (x ∷ [])) ++ c.more) c.numeral) in
    no_err _ _ read (s.again x xs c.more same)

before_byte : (text : List ℕ) (f : DecimalFault) (s : Stops text f) (x : ℕ) (xs : List ℕ) → s.rest ≡ x ∷ xs →
    take (length s.front) text ≡ s.front
before_byte text f s x xs same = ap (λ (t : List ℕ). take (length s.front) t) s.stands
    ∙ take_at s.front s.rest (length s.front) refl

with_byte : (text : List ℕ) (f : DecimalFault) (s : Stops text f) (x : ℕ) (xs : List ℕ) → s.rest ≡ x ∷ xs →
    take (length s.front + 1) text ≡ s.front ++ (x ∷ [])
with_byte text f s x xs same =
    let stands : text ≡ (s.front ++ (x ∷ [])) ++ xs = s.stands ∙ rw same (sym (append_assoc s.front (x ∷ []) xs)) in
    ap (λ (t : List ℕ). take (length s.front + 1) t) stands
    ∙ take_at (s.front ++ (x ∷ [])) xs (length s.front + 1) (length-append s.front (x ∷ []))

stops_at : (text : List ℕ) (f : DecimalFault) (s : Stops text f) (x : ℕ) (xs : List ℕ) → s.rest ≡ x ∷ xs →
    StopsAt (length s.front) text
stops_at text f s x xs same = record {
  before = rw (before_byte text f s x xs same) (record { more = 48 ∷ []; numeral = s.goes_on });
  behind = λ c. bad_byte text f s x xs same (rw (with_byte text f s x xs same) at c);
}

-- a text that stops at a byte is no part of a numeral
no_part : (place : ℕ) (text : List ℕ) → StopsAt place text → ¬ CanContinue text
no_part place text s c =
    s.behind (shorter (take (place + 1) text) (drop (place + 1) text)
    (rw (take-append-drop (place + 1) text) c))

one_place : (m n : ℕ) (text : List ℕ) → StopsAt m text → StopsAt n text → m ≡ n
one_place m n text s t = elim (cases_Bool (nat_lt m n)) [
  | inl less ↦ absurd (s.behind (shorter_take (m + 1) n text (grind (arith, nat_tests)) t.before))
  | inr not_less ↦ elim (cases_Bool (nat_lt n m)) [
    | inl less ↦ absurd (t.behind (shorter_take (n + 1) m text (grind (arith, nat_tests)) s.before))
    | inr neither ↦ grind (arith, nat_tests)
  ]
]

-- what is told where a text stops at its end, or at a byte
told_at : (text : List ℕ) (f : DecimalFault) (s : Stops text f) (rest : List ℕ) → s.rest ≡ rest →
    f ≡ stop (length text) rest
told_at text f s rest same = s.fault ∙ ap (λ (t : List ℕ). stop (length text) t) same

byte_told : (text : List ℕ) (f : DecimalFault) (s : Stops text f) (x : ℕ) (xs : List ℕ) → s.rest ≡ x ∷ xs →
    f ≡ BadByte (length s.front)
byte_told text f s x xs same =
    let count : length text ≡ length s.front + length s.rest =
    ap (λ (t : List ℕ). length t) s.stands ∙ length-append s.front s.rest in
    let rest : length s.rest ≡ length (x ∷ xs) = ap (λ (t : List ℕ). length t) same in
    let place : length text - length (x ∷ xs) ≡ length s.front = omega arith in
    told_at text f s (x ∷ xs) same ∙ ap (λ (n : ℕ). BadByte n) place

empty_told : (text : List ℕ) (s : Stops text Empty) → (rest : List ℕ) → s.rest ≡ rest → CanContinue text
empty_told text s [] same = at_the_end text Empty s same
empty_told text s (x ∷ xs) same =
    absurd (let e = byte_told text Empty s x xs same in let d : Empty ≢ BadByte (length s.front) =
    grind arith in d e)

unfinished : (text : List ℕ) → numeral text ≡ Err Empty → IsUnfinished text
unfinished text h =
    let read = text_fault text Empty h tt in
    let s = stops text Empty read in
    record {
      continued = empty_told text s s.rest refl;
      no_numeral = λ n. let e : ◌≡◌ {A = Result Parts DecimalFault} (Err Empty) (Ok n.parts) =
          sym read ∙ numeral_read text n in absurd cc;
    }

finish_told : (text : List ℕ) (f : DecimalFault) (s : Stops text f) → CanContinue text → (rest : List ℕ) →
    s.rest ≡ rest → f ≡ Empty
finish_told text f s c [] same = told_at text f s [] same
finish_told text f s c (x ∷ xs) same = absurd (no_part (length s.front) text (stops_at text f s x xs same) c)

finish : (text : List ℕ) → IsUnfinished text → numeral text ≡ Err Empty
finish text u = elim (outcome (parts_in text)) [
  | inl (p, read) ↦ absurd (u.no_numeral (whole_numeral text p read))
  | inr (f, read) ↦
      let s = stops text f read in
      fault_told text Empty (read ∙ ap (λ (e : DecimalFault). Err e) (finish_told text f s u.continued s.rest refl))
]

pub empty_law : EmptyLaw
empty_law text = (unfinished text, finish text)

bad_byte_stops : (place : ℕ) (text : List ℕ) (s : Stops text (BadByte place)) → (rest : List ℕ) →
    s.rest ≡ rest → StopsAt place text
bad_byte_stops place text s [] same =
    absurd (let e = told_at text (BadByte place) s [] same in let d : BadByte place ≢ Empty =
    grind arith in d e)
bad_byte_stops place text s (x ∷ xs) same =
    let e : BadByte place ≡ BadByte (length s.front) = byte_told text (BadByte place) s x xs same in
    let at_front : place ≡ length s.front = cc in
    rw at_front (stops_at text (BadByte place) s x xs same)

stop_told : (place : ℕ) (text : List ℕ) (f : DecimalFault) (s : Stops text f) → StopsAt place text →
    (rest : List ℕ) → s.rest ≡ rest → f ≡ BadByte place
stop_told place text f s t [] same = absurd (no_part place text t (at_the_end text f s same))
stop_told place text f s t (x ∷ xs) same = byte_told text f s x xs same
    ∙ ap (λ (n : ℕ). BadByte n) (one_place (length s.front) place text (stops_at text f s x xs same) t)

stop_is_told : (place : ℕ) (text : List ℕ) → StopsAt place text → numeral text ≡ Err (BadByte place)
stop_is_told place text t = elim (outcome (parts_in text)) [
  | inl (p, read) ↦ absurd (no_part place text t (continued_numeral text (whole_numeral text p read)))
  | inr (f, read) ↦
      let s = stops text f read in
      fault_told text (BadByte place) (read ∙ ap (λ (e : DecimalFault). Err e) (stop_told place text f s t s.rest refl))
]

told_stop : (place : ℕ) (text : List ℕ) → numeral text ≡ Err (BadByte place) → StopsAt place text
told_stop place text h = let s = stops text (BadByte place) (text_fault text (BadByte place) h tt) in
    bad_byte_stops place text s s.rest refl

pub bad_byte_law : BadByteLaw
bad_byte_law text place = (told_stop place text, stop_is_told place text)
