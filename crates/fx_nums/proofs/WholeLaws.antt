-- A number is read exactly where its decimal stands.
use Rattle.std.proofs.Common.{◌≡◌, ◌≤◌, ◌<◌, ◌+◌, ◌-◌, ◌*◌, ◌/◌, ◌%◌, ◌^◌, ◌==◌, ◌&&◌, ◌∙◌, ℕ, Bool, true}
use Rattle.std.proofs.Common.{false, not, cond, List, [], ◌∷◌, ◌++◌, decimal, Option, Some, None, refl, sym, ap}
use Rattle.std.proofs.Common.{append_assoc, arith, inl, inr}
use Rattle.std.proofs.lemmas.Bool.{cases_Bool, and_parts, leb-true, le-leb, ltb-true, lt-ltb}
use Rattle.std.proofs.lemmas.Bool.Decides.{nat_tests}
use Rattle.std.proofs.lemmas.Fmt.{decimal_digit, decimal_step_wide, decimal_by_steps_wide}
use Rattle.std.proofs.lemmas.Option.{some_pair_parts}
use Rattle.std.specs.Char.{is_ascii_digit}
use Rattle.std.specs.Prelude.{nat_le, nat_lt}
use Rattle.fx_nums.specs.Whole.{IsWholeAndRest, WholeLaw, begins_number, begins_with_digit, digits_from, whole_in}

only_true : {A : Type 0} (b : Bool) (o : Option A) (x : A) → cond b o None ≡ Some x → (b ≡ true) × (o ≡ Some x)
only_true true o x e = (refl, e)
only_true false o x e = absurd cc

not_both : (a b : Bool) → not a ≡ true → not (a && b) ≡ true
not_both true b h = absurd cc
not_both false b h = refl

-- ---- what is read stands there

-- one more digit
decimal_more : (c v : ℕ) → 48 ≤ c → c ≤ 57 → 0 < v → 10 * v + (c - 48) < 10 ^ 64 →
    decimal (10 * v + (c - 48)) ≡ decimal v ++ c ∷ []
decimal_more c v low top pos wide =
    let w : ℕ = 10 * v + (c - 48) in
    let front : w / 10 ≡ v = omega arith in
    let last : 48 + w % 10 ≡ c = omega arith in
    decimal_step_wide w (omega arith) wide ∙ rw (front, last) refl

-- what is read behind the digits of v
record ReadsOn (limit v : ℕ) (text : List ℕ) (n : ℕ) (rest : List ℕ) : Type 0 where
  stands : decimal v ++ text ≡ decimal n ++ rest
  below : n < limit
  no_digit : begins_with_digit rest ≡ false

reads_on : (limit v : ℕ) (text : List ℕ) (n : ℕ) (rest : List ℕ) → limit ≤ 2 ^ 128 → 0 < v → v < limit →
    digits_from limit v text ≡ Some (n, rest) → ReadsOn limit v text n rest
unfolding digits_from
reads_on limit v [] n rest wide pos fits e =
    let (number, nothing) = some_pair_parts v n [] rest e in
    record { stands = rw (number, nothing) refl; below = rw (← number) fits; no_digit = rw (← nothing) refl }
reads_on limit v (c ∷ cs) n rest wide pos fits e = elim (cases_Bool (is_ascii_digit c)) [
  | inl digit ↦
      let w : ℕ = 10 * v + (c - 48) in
      let (low, top) = and_parts (nat_le 48 c) (nat_le c 57) digit in
      let above : 48 ≤ c = leb-true 48 c low in
      let within : c ≤ 57 = leb-true c 57 top in
      let (less, on) = only_true (nat_lt w limit) (digits_from limit w cs) (n, rest) (rw digit at e) in
      let small : w < limit = ltb-true w limit less in
      let more = reads_on limit w cs n rest wide (omega arith) small on in
      let one = decimal_more c v above within pos (omega arith) in
      record {
        stands = sym (append_assoc (decimal v) (c ∷ []) cs) ∙ ap (λ (t : List ℕ). t ++ cs) (sym one) ∙ more.stands;
        below = more.below;
        no_digit = more.no_digit;
      }
  | inr other ↦
      let (number, same) = some_pair_parts v n (c ∷ cs) rest (rw other at e) in
      record { stands = rw (number, same) refl; below = rw (← number) fits; no_digit = rw (← same) other }
]

-- reading stops where no digit follows
stops : (limit v : ℕ) (rest : List ℕ) → begins_with_digit rest ≡ false → digits_from limit v rest ≡ Some (v, rest)
unfolding digits_from
stops limit v [] h = refl
stops limit v (c ∷ cs) h = rw h refl

front_stands : (limit c : ℕ) (cs : List ℕ) (n : ℕ) (rest : List ℕ) → limit ≤ 2 ^ 128 →
    begins_number (c ∷ cs) ≡ true → digits_from limit 0 (c ∷ cs) ≡ Some (n, rest) →
    IsWholeAndRest limit (c ∷ cs) n rest
unfolding digits_from
front_stands limit c cs n rest wide begins e =
    let (digit, plain) = and_parts (is_ascii_digit c) (not (c == 48 && begins_with_digit cs)) begins in
    let (low, top) = and_parts (nat_le 48 c) (nat_le c 57) digit in
    let above : 48 ≤ c = leb-true 48 c low in
    let within : c ≤ 57 = leb-true c 57 top in
    let is : 10 * 0 + (c - 48) ≡ c - 48 = omega arith in
    let (less, on) = only_true (nat_lt (c - 48) limit) (digits_from limit (c - 48) cs) (
      n,
      rest,
    ) (rw (digit, is) at e) in
    let small : c - 48 < limit = ltb-true (c - 48) limit less in
    let back : 48 + (c - 48) ≡ c = omega arith in
    let one : decimal (c - 48) ≡ c ∷ [] = decimal_digit (c - 48) (omega arith) ∙ ap (λ (x : ℕ). x ∷ []) back in
    elim (cases_Bool (c == 48)) [
      | inl zero_first ↦
          let no_more : begins_with_digit cs ≡ false = not_true (begins_with_digit cs) (rw zero_first at plain) in
          let (number, same) = some_pair_parts (c - 48) n cs rest (sym (stops limit (c - 48) cs no_more) ∙ on) in
          record {
            stands = rw (← number, ← same, one) refl;
            below = rw (← number) small;
            no_digit =
                rw (← same) no_more;
          }
      | inr other ↦
          let far : 48 < c = grind (arith, nat_tests) in
          let more = reads_on limit (c - 48) cs n rest wide (omega arith) small on in
          record {
            stands = ap (λ (t : List ℕ). t ++ cs) (sym one) ∙ more.stands;
            below =
                more.below;
            no_digit = more.no_digit;
          }
    ]
  where
    not_true : (b : Bool) → not b ≡ true → b ≡ false
    not_true true h = absurd cc
    not_true false h = refl

pub stands_there : (limit : ℕ) (text : List ℕ) (n : ℕ) (rest : List ℕ) → limit ≤ 2 ^ 128 →
    whole_in limit text ≡ Some (n, rest) → IsWholeAndRest limit text n rest
unfolding whole_in
stands_there limit [] n rest wide e = absurd cc
stands_there limit (c ∷ cs) n rest wide e =
    let (begins, on) = only_true (begins_number (c ∷ cs)) (digits_from limit 0 (c ∷ cs)) (n, rest) e in
    front_stands limit c cs n rest wide begins on

-- the reader's number is below the limit
pub read_below : (limit : ℕ) (text : List ℕ) (n : ℕ) (rest : List ℕ) → limit ≤ 2 ^ 128 →
    begins_number text ≡ true → Some (n, rest) ≡ digits_from limit 0 text → n < limit
unfolding whole_in
read_below limit text n rest wide begins e =
    let whole : whole_in limit text ≡ Some (n, rest) = rw begins (sym e) in
    (stands_there limit text n rest wide whole).below

-- ---- what stands there is read

takes_digit : (limit v c w : ℕ) (rest : List ℕ) → 48 ≤ c → c ≤ 57 → 10 * v + (c - 48) ≡ w → w < limit →
    digits_from limit v (c ∷ rest) ≡ digits_from limit w rest
unfolding digits_from
takes_digit limit v c w rest low top is fits = rw (le-leb 48 c low, le-leb c 57 top, is, lt-ltb w limit fits) refl

abbrev TakesDigits : ℕ → ℕ → List ℕ → Type 0
TakesDigits limit n ds = (rest : List ℕ) → n < limit → digits_from limit 0 (ds ++ rest) ≡ digits_from limit n rest

takes_decimal : (limit n : ℕ) → n < 10 ^ 64 → TakesDigits limit n (decimal n)
takes_decimal limit = decimal_by_steps_wide (TakesDigits limit)
    (λ m one rest fits. takes_digit limit 0 (48 + m) m rest (omega arith) (omega arith) (omega arith) fits)
    (λ m ds ten before rest fits.
    ap (digits_from limit 0) (append_assoc ds ((48 + m % 10) ∷ []) rest) ∙ before ((48 + m % 10) ∷ rest) (omega arith)
    ∙ takes_digit limit (m / 10) (48 + m % 10) m rest (omega arith) (omega arith) (omega arith) fits)

-- a digit stands first that is no zero
abbrev leads : List ℕ → Bool
leads [] = false
leads (c ∷ cs) = is_ascii_digit c && not (c == 48)

leads-append : (ds rest : List ℕ) → leads ds ≡ true → leads (ds ++ rest) ≡ true
leads-append [] rest h = absurd cc
leads-append (c ∷ cs) rest h = h

leads_begins : (text : List ℕ) → leads text ≡ true → begins_number text ≡ true
leads_begins [] h = absurd cc
leads_begins (c ∷ cs) h =
    let (digit, other) = and_parts (is_ascii_digit c) (not (c == 48)) h in
    rw (digit, not_both (c == 48) (begins_with_digit cs) other) refl

record Begins (n : ℕ) (ds : List ℕ) : Type 0 where
  leads : 0 < n → leads ds ≡ true
  begins : (rest : List ℕ) → begins_with_digit rest ≡ false → begins_number (ds ++ rest) ≡ true

digit_leads : (m : ℕ) → 0 < m → m < 10 → leads ((48 + m) ∷ []) ≡ true
digit_leads m pos one = grind (arith, nat_tests)

digit_begins : (m : ℕ) (rest : List ℕ) → m < 10 → begins_with_digit rest ≡ false →
    begins_number ((48 + m) ∷ rest) ≡ true
digit_begins m rest one h =
    rw (le-leb 48 (48 + m) (omega arith), le-leb (48 + m) 57 (omega arith), h) (no_both (48 + m == 48))
  where
    no_both : (b : Bool) → not (b && false) ≡ true
    no_both true = refl
    no_both false = refl

decimal_begins : (n : ℕ) → n < 10 ^ 64 → Begins n (decimal n)
decimal_begins = decimal_by_steps_wide Begins
    (λ m one. record { leads = λ pos. digit_leads m pos one; begins = λ rest h. digit_begins m rest one h })
    (λ m ds ten before.
    let longer = leads-append ds ((48 + m % 10) ∷ []) (before.leads (omega arith)) in
    record {
      leads = λ pos. longer;
      begins =
          λ rest h. leads_begins ((ds ++ (48 + m % 10) ∷ []) ++ rest)
          (leads-append (ds ++ (48 + m % 10) ∷ []) rest longer);
    })

-- a decimal is read, to where no digit follows
pub whole_in-decimal : (limit n : ℕ) (rest : List ℕ) → limit ≤ 2 ^ 128 → n < limit →
    begins_with_digit rest ≡ false → whole_in limit (decimal n ++ rest) ≡ Some (n, rest)
unfolding whole_in
whole_in-decimal limit n rest wide fits h =
    let begins = (decimal_begins n (omega arith)).begins rest h in
    rw begins (takes_decimal limit n (omega arith) rest fits ∙ stops limit n rest h)

pub whole_law : WholeLaw
whole_law limit text n rest wide = (
  stands_there limit text n rest wide,
  λ h. ap (whole_in limit) h.stands
      ∙ whole_in-decimal limit n rest wide h.below h.no_digit,
)
