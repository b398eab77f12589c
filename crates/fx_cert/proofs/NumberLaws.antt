-- Numbers as they are read are those that are written.
use Rattle.std.proofs.Common.{◌≡◌, ◌≤◌, ◌<◌, ◌+◌, ◌-◌, ◌*◌, ◌/◌, ◌%◌, ◌^◌, ◌==◌, ◌&&◌, ◌∙◌, ℕ, Bool, true}
use Rattle.std.proofs.Common.{false, not, cond, nat_le, List, [], ◌∷◌, ◌++◌, decimal, Option, Some, None, refl}
use Rattle.std.proofs.Common.{sym, ap, append_assoc, arith, inl, inr}
use Rattle.std.proofs.lemmas.Bool.{cases_Bool, and_parts, leb-true, le-leb, ltb-false, le-ltb}
use Rattle.std.proofs.lemmas.Bool.Decides.{nat_tests}
use Rattle.std.proofs.lemmas.Fmt.{decimal_digit, decimal_step_wide, decimal_by_steps_wide}
use Rattle.std.proofs.lemmas.List.{append-nil}
use Rattle.std.proofs.lemmas.Option.{same_Some}
use Rattle.std.specs.Prelude.{option_and_then, nat_lt}
use Rattle.fx_cert.specs.Lines.{no_feed}
use Rattle.fx_cert.specs.Reading.{has_no_leading_zero, is_digit, number_within, value_within}

-- ---- numbers

pub record IsStep (c v w high : ℕ) : Type 0 where
  pub low : 48 ≤ c
  pub top : c ≤ 57
  pub fits : w ≤ high

step_of : (c v w high : ℕ) → (is_digit c && nat_le w high) ≡ true → IsStep c v w high
step_of c v w high e =
    let parts = and_parts (is_digit c) (nat_le w high) e in
    let digit = and_parts (nat_le 48 c) (nat_le c 57) parts.0 in
    record { low = leb-true _ _ digit.0; top = leb-true _ _ digit.1; fits = leb-true _ _ parts.1 }

test_of : (c w high : ℕ) → 48 ≤ c → c ≤ 57 → w ≤ high → (is_digit c && nat_le w high) ≡ true
test_of c w high low top fits = rw (le-leb 48 c low, le-leb c 57 top, le-leb w high fits) refl

-- one more digit
decimal_more : (c v : ℕ) → 48 ≤ c → c ≤ 57 → 0 < v → 10 * v + (c - 48) < 10 ^ 64 →
    decimal (10 * v + (c - 48)) ≡ decimal v ++ c ∷ []
decimal_more c v low top pos wide =
    let w : ℕ = 10 * v + (c - 48) in
    let front : w / 10 ≡ v = omega arith in
    let last : 48 + w % 10 ≡ c = omega arith in
    decimal_step_wide w (omega arith) wide ∙ rw (front, last) refl

-- the digits behind those of v make the decimal of the number
pub value_reads : (high v : ℕ) (cs : List ℕ) (n : ℕ) → 0 < v → high < 10 ^ 64 →
    value_within high v cs ≡ Some n → decimal n ≡ decimal v ++ cs
unfolding value_within
value_reads high v [] n pos wide e = ap decimal (sym (same_Some _ _ e)) ∙ sym (append-nil (decimal v))
value_reads high v (c ∷ cs) n pos wide e = elim (cases_Bool (is_digit c && nat_le (10 * v + (c - 48)) high)) [
  | inl good ↦
      let s = step_of c v (10 * v + (c - 48)) high good in
      let low = s.low in
      let top = s.top in
      let fits = s.fits in
      let rest = value_reads high (10 * v + (c - 48)) cs n (omega arith) wide (rw good at e) in
      rest ∙ ap (λ (t : List ℕ). t ++ cs) (decimal_more c v low top pos (omega arith))
      ∙ append_assoc (decimal v) (c ∷ []) cs
  | inr bad ↦ absurd (let none : None ≡ Some n = rw bad at e in cc)
]

pub value_no_feed : (high v : ℕ) (cs : List ℕ) (n : ℕ) → value_within high v cs ≡ Some n → no_feed cs ≡ true
unfolding value_within
value_no_feed high v [] n e = refl
value_no_feed high v (c ∷ cs) n e = elim (cases_Bool (is_digit c && nat_le (10 * v + (c - 48)) high)) [
  | inl good ↦
      let s = step_of c v (10 * v + (c - 48)) high good in
      let low = s.low in
      let other : (c == 10) ≡ false = grind (arith, nat_tests) in
      rw (other, value_no_feed high (10 * v + (c - 48)) cs n (rw good at e)) refl
  | inr bad ↦ absurd (let none : None ≡ Some n = rw bad at e in cc)
]

-- reading on
value_within-append : (high v : ℕ) (cs ds : List ℕ) → value_within high v (cs ++ ds)
    ≡ option_and_then (λ w. value_within high w ds) (value_within high v cs)
unfolding value_within
value_within-append high v [] ds = refl
value_within-append high v (c ∷ cs) ds =
    go (is_digit c && nat_le (10 * v + (c - 48)) high) (value_within-append high (10 * v + (c - 48)) cs ds)
  where
    go : (b : Bool) → value_within high (10 * v + (c - 48)) (cs ++ ds)
        ≡ option_and_then (λ w. value_within high w ds) (value_within high (10 * v + (c - 48)) cs)
        → cond b (value_within high (10 * v + (c - 48)) (cs ++ ds)) None
        ≡ option_and_then (λ w. value_within high w ds)
        (cond b (value_within high (10 * v + (c - 48)) cs) None)
    go true e = e
    go false e = refl

abbrev ReadsAgain : ℕ → ℕ → List ℕ → Type 0
ReadsAgain high n ds = n ≤ high → value_within high 0 ds ≡ Some n

-- a decimal is read as its number
pub value_again : (high n : ℕ) → n < 10 ^ 64 → n ≤ high → value_within high 0 (decimal n) ≡ Some n
unfolding value_within
value_again high n wide = decimal_by_steps_wide (ReadsAgain high)
    (λ m one fits. rw (test_of (48 + m) (10 * 0 + (48 + m - 48)) high (omega arith) (omega arith)
    (omega arith)) (ap (λ (x : ℕ). Some x) (omega arith)))
    (λ m ds ten before fits.
    let front : value_within high 0 ds ≡ Some (m / 10) = before (omega arith) in
    let is : 10 * (m / 10) + (48 + m % 10 - 48) ≡ m = omega arith in
    value_within-append high 0 ds ((48 + m % 10) ∷ []) ∙ rw (
      front,
      is,
    ) (rw (test_of (48 + m % 10) m high (omega arith) (omega arith) fits) refl))
    n wide

-- ---- numbers with no leading zero

abbrev leads : List ℕ → Bool
leads [] = false
leads (c ∷ cs) = not (c == 48)

leads_canonical : (ds : List ℕ) → leads ds ≡ true → has_no_leading_zero ds ≡ true
leads_canonical [] h = absurd cc
leads_canonical (c ∷ []) h = refl
leads_canonical (c ∷ d ∷ cs) h = h

leads_append : (ds xs : List ℕ) → leads ds ≡ true → leads (ds ++ xs) ≡ true
leads_append [] xs h = absurd cc
leads_append (c ∷ cs) xs h = h

abbrev Leads : ℕ → List ℕ → Type 0
Leads n ds = (has_no_leading_zero ds ≡ true) × (0 < n → leads ds ≡ true)

not_zero : (m : ℕ) → 0 < m → not (48 + m == 48) ≡ true
not_zero m pos = grind (arith, nat_tests)

decimal_leads : (n : ℕ) → n < 10 ^ 64 → Leads n (decimal n)
decimal_leads = decimal_by_steps_wide Leads
    (λ m one. (refl, λ pos. not_zero m pos))
    (λ m ds ten before.
    let more = leads_append ds ((48 + m % 10) ∷ []) (before.1 (omega arith)) in
    (leads_canonical (ds ++ (48 + m % 10) ∷ []) more, λ pos. more))

value_small : (high v : ℕ) (cs : List ℕ) (n : ℕ) → v ≤ high → value_within high v cs ≡ Some n → n ≤ high
unfolding value_within
value_small high v [] n h e = rw (← same_Some _ _ e) h
value_small high v (c ∷ cs) n h e = elim (cases_Bool (is_digit c && nat_le (10 * v + (c - 48)) high)) [
  | inl good ↦ value_small high (10 * v + (c - 48)) cs n (step_of c v (10 * v + (c - 48)) high good).fits (rw good at e)
  | inr bad ↦ absurd (let none : None ≡ Some n = rw bad at e in cc)
]

first_digit : (high c : ℕ) (cs : List ℕ) (n : ℕ) → value_within high 0 (c ∷ cs) ≡ Some n →
    (48 ≤ c) × (c ≤ 57) × (value_within high (c - 48) cs ≡ Some n)
unfolding value_within
first_digit high c cs n e = elim (cases_Bool (is_digit c && nat_le (10 * 0 + (c - 48)) high)) [
  | inl good ↦
      let s = step_of c 0 (10 * 0 + (c - 48)) high good in
      let is : 10 * 0 + (c - 48) ≡ c - 48 = omega arith in
      (s.low, s.top, rw (good, is) at e)
  | inr bad ↦ absurd (let none : None ≡ Some n = rw bad at e in cc)
]

digits_are : (high : ℕ) (ds : List ℕ) (n : ℕ) → high < 10 ^ 64 → has_no_leading_zero ds ≡ true →
    value_within high 0 ds ≡ Some n → ds ≡ decimal n
unfolding value_within
digits_are high [] n wide canonical e = absurd cc
digits_are high (c ∷ []) n wide canonical e =
    let (low, top, last) = first_digit high c [] n e in
    let is : c - 48 ≡ n = same_Some _ _ last in
    let same : 48 + n ≡ c = omega arith in
    sym (decimal_digit n (omega arith) ∙ ap (λ (x : ℕ). x ∷ []) same)
digits_are high (c ∷ d ∷ cs) n wide canonical e =
    let (low, top, rest) = first_digit high c (d ∷ cs) n e in
    let other : 48 < c = grind (arith, nat_tests) in
    let read = value_reads high (c - 48) (d ∷ cs) n (omega arith) wide rest in
    let same : 48 + (c - 48) ≡ c = omega arith in
    sym (read ∙ ap (λ (t : List ℕ). t ++ d ∷ cs) (decimal_digit (c - 48) (omega arith) ∙ ap (λ (x : ℕ). x ∷ []) same))

pub record IsNumber (low high : ℕ) (ds : List ℕ) (n : ℕ) : Type 0 where
  pub digits : ds ≡ decimal n
  pub above : low ≤ n
  pub below : n ≤ high

at_least : (low n m : ℕ) (b : Bool) → nat_lt m low ≡ b → cond b None (Some m) ≡ Some n → (m ≡ n) × (low ≤ n)
at_least low n m true t e = absurd cc
at_least low n m false t e =
    let same : m ≡ n = same_Some _ _ e in
    let above : low ≤ m = ltb-false _ _ t in
    (same, rw (← same) above)

checked : (low high : ℕ) (ds : List ℕ) (n : ℕ) (o : Option ℕ) → value_within high 0 ds ≡ o →
    option_and_then (λ v. cond (nat_lt v low) None (Some v)) o ≡ Some n →
    (value_within high 0 ds ≡ Some n) × (low ≤ n)
checked low high ds n None h e = absurd cc
checked low high ds n (Some m) h e =
    let last = at_least low n m (nat_lt m low) refl e in
    (h ∙ ap (λ (x : ℕ). Some x) last.0, last.1)

pub number_takes : (low high : ℕ) (ds : List ℕ) (n : ℕ) → high < 10 ^ 64 → number_within low high ds ≡ Some n →
    IsNumber low high ds n
unfolding number_within
number_takes low high ds n wide e = elim (cases_Bool (has_no_leading_zero ds)) [
  | inl canonical ↦
      let read = checked low high ds n (value_within high 0 ds) refl (rw canonical at e) in
      record {
        digits = digits_are high ds n wide canonical read.0;
        above = read.1;
        below =
            value_small high 0 ds n (omega arith) read.0;
      }
  | inr bad ↦ absurd (let none : None ≡ Some n = rw bad at e in cc)
]

pub number_again : (low high n : ℕ) → high < 10 ^ 64 → low ≤ n → n ≤ high → number_within low high (decimal n) ≡ Some n
unfolding number_within
number_again low high n wide above below =
    let small : n < 10 ^ 64 = omega arith in
    let test : nat_lt n low ≡ false = le-ltb n low above in
    rw ((decimal_leads n small).0, value_again high n small below, test) refl

pub decimal_no_feed : (n : ℕ) → n < 10 ^ 64 → no_feed (decimal n) ≡ true
decimal_no_feed n small = value_no_feed n 0 (decimal n) n (value_again n n small (omega arith))
