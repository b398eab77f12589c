-- What is read as a number or a numbered name stands there, and what stands there is read.
use Rattle.std.proofs.Common.{◌≡◌, ◌≤◌, ◌<◌, ◌+◌, ◌^◌, ◌==◌, ◌&&◌, ◌∙◌, ℕ, zero, suc, true, false, List, []}
use Rattle.std.proofs.Common.{◌∷◌, ◌++◌, codes, decimal, length, drop, Option, Some, None, refl, sym, ap, arith}
use Rattle.std.proofs.Common.{lit≤, inl, inr}
use Rattle.std.proofs.lemmas.Bool.{cases_Bool, and_parts, or_parts, or_from, ltb-false, le-ltb, eqb-true, eq-eqb}
use Rattle.std.proofs.lemmas.Bool.Decides.{nat_tests}
use Rattle.std.proofs.lemmas.Fmt.{decimal_digit}
use Rattle.std.proofs.lemmas.List.{append-nil}
use Rattle.std.proofs.lemmas.List.Folds.{list_all-append}
use Rattle.std.proofs.lemmas.Slice.Eq.{bytes_eq-Decides}
use Rattle.std.specs.List.{list_all}
use Rattle.std.specs.Prelude.{nat_lt}
use Rattle.std.specs.Str.{bytes_eq}
use Rattle.fx_code.specs.Limits.{is_outside}
use Rattle.fx_code.specs.declared.fault.LimitOf.{LimitOf}
use Rattle.fx_nums.specs.Whole.{begins_with_digit, whole_in}
use Rattle.fx_nums.proofs.WholeLaws.{stands_there, whole_in-decimal}
use Rattle.fx_text.specs.declared.fault.CodeFault.{CodeFault}
use Rattle.fx_nums.specs.Signs.{digit_zero, is_digit}
use Rattle.fx_text.specs.Tokens.{is_letter, begins, is_name, Lexeme, name, number, sign, HasLexemes}
use Rattle.fx_text.specs.Grammar.{next_number}
use Rattle.fx_math.specs.Faults.{or_fault}
use Rattle.fx_text.specs.TokenReading.{front_len, number_at, ranged_at, next_at, writes_digit, index_at, alone}
use Rattle.fx_text.specs.TokenReading.{then_alone, name_number, is_some_of, due_at}
use Rattle.fx_text.proofs.Bytes.{decimal_digits, digits_words}
use Rattle.fx_text.proofs.TokenLaws.{Sound, sound_bind, sound_ok, sound_err, sound_if, After, after_bind, Back}
use Rattle.fx_text.proofs.TokenLaws.{token_sound, number_digits, word_back, number_back, expect_sound}
use Rattle.fx_text.proofs.TokenLaws.{expect_again, fixed_again, number_token}

-- ---- numbers

pub or_fault_sound : {A : Type 0} (fault : CodeFault) (o : Option A) → Sound (or_fault fault o) (λ x. o ≡ Some x)
or_fault_sound fault (Some x) = sound_ok x refl
or_fault_sound fault None = sound_err fault

no_rest : (rest : List ℕ) → list_all is_digit rest ≡ true → begins_with_digit rest ≡ false → rest ≡ []
no_rest [] all stop = refl
no_rest (c ∷ cs) all stop = absurd (let first = (and_parts (is_digit c) (list_all is_digit cs) all).0 in cc)

-- digits that are read as a number are its decimal
digits_are : (limit : ℕ) (w : List ℕ) (n : ℕ × List ℕ) → limit ≤ 2 ^ 128 → list_all is_digit w ≡ true →
    whole_in limit w ≡ Some n → (w ≡ decimal n.0) × (n.0 < limit)
digits_are limit w n wide all e =
    let s = stands_there limit w n.0 n.1 wide e in
    let both : (list_all is_digit (decimal n.0) && list_all is_digit n.1) ≡ true =
    sym (list_all-append is_digit (decimal n.0) n.1) ∙ ap (list_all is_digit) (sym s.stands) ∙ all in
    let none = no_rest n.1 (and_parts (list_all is_digit (decimal n.0)) (list_all is_digit n.1) both).1 s.no_digit in
    (s.stands ∙ ap (λ (t : List ℕ). decimal n.0 ++ t) none ∙ append-nil (decimal n.0), s.below)

-- the number that was read, and its token
pub record NumberRead (text : List ℕ) (at : ℕ) (n : ℕ × ℕ) : Type 0 where
  pub below : n.0 < 2 ^ 63
  pub back : Back text at n.1 (λ ts. number n.0 ∷ ts)

pub number_sound : (text : List ℕ) (at : ℕ) → Sound (number_at text at) (NumberRead text at)
unfolding number_at
number_sound text at = sound_bind (token_sound text at) (λ t r.
    sound_if (begins is_digit t.1) _ _ (λ digit. sound_bind (or_fault_sound _ (whole_in (2 ^ 63) t.1)) (λ n e.
    let is = digits_are (2 ^ 63) t.1 n (lit≤ tt) (number_digits t.1 (drop t.2 text) digit r.size) e in
    sound_ok (n.0, t.2) (record { below = is.1; back = number_back text at n.0 t r digit is.0 }))) (λ other.
    sound_err _))

pub whole_again : (limit n : ℕ) → limit ≤ 2 ^ 128 → n < limit → whole_in limit (decimal n) ≡ Some (n, [])
whole_again limit n wide below = ap (whole_in limit) (sym (append-nil (decimal n)))
    ∙ whole_in-decimal limit n [] wide below refl

pub number_again : (text : List ℕ) (at n : ℕ) (ts : List Lexeme) → n < 2 ^ 63 →
    HasLexemes (drop at text) (number n ∷ ts) → After (number_at text at) (λ e. (n, e)) text ts
unfolding number_at
number_again text at n ts below h =
    let digits = decimal_digits n (omega arith) in
    let r = number_token text at n ts digits h in
    record { place = r.place; is = rw (r.is, digits.some, whole_again (2 ^ 63) n (lit≤ tt) below) refl; has = r.has }

pub record RangedRead (low high : ℕ) (text : List ℕ) (at : ℕ) (us : ℕ → List Lexeme →
    List Lexeme) (n : ℕ × ℕ) : Type 0 where
  pub low_end : low ≤ n.0
  pub high_end : n.0 ≤ high
  pub back : Back text at n.1 (us n.0)

inside_of : (low high n : ℕ) → is_outside low high n ≡ false → (low ≤ n) × (n ≤ high)
inside_of low high n e =
    let p = or_parts (nat_lt n low) (nat_lt high n) e in
    (ltb-false n low p.0, ltb-false high n p.1)

pub ranged_sound : (what : LimitOf) (low high : ℕ) (text : List ℕ) (at : ℕ) →
    Sound (ranged_at what low high text at) (RangedRead low high text at (λ n ts. number n ∷ ts))
unfolding ranged_at
ranged_sound what low high text at = sound_bind (number_sound text at) (λ n r.
    sound_if (is_outside low high n.0) _ _ (λ outside. sound_err _) (λ inside.
    let is = inside_of low high n.0 inside in
    sound_ok n (record { low_end = is.0; high_end = is.1; back = r.back })))

pub ranged_again : (what : LimitOf) (low high : ℕ) (text : List ℕ) (at n : ℕ) (ts : List Lexeme) → low ≤ n →
    n ≤ high → n < 2 ^ 63 → HasLexemes (drop at text) (number n ∷ ts) →
    After (ranged_at what low high text at) (λ e. (n, e)) text ts
unfolding ranged_at
ranged_again what low high text at n ts above below fits h = after_bind _ (number_again text at n ts fits h) (λ e k.
    let inside : is_outside low high n ≡ false = or_from _ _ (le-ltb n low above) (le-ltb high n below) in
    record { place = e; is = rw inside refl; has = k })

pub next_sound : (what : LimitOf) (low high : ℕ) (text : List ℕ) (at : ℕ) →
    Sound (next_at what low high text at) (RangedRead low high text at next_number)
unfolding next_at
next_sound what low high text at = sound_bind (expect_sound (sign (codes ",")) text at refl) (λ b first.
    record {
      holds = λ n e.
          let r = (ranged_sound what low high text b).holds n e in
          record {
            low_end = r.low_end;
            high_end = r.high_end;
            back =
                record { back = λ ts h. first.back (number n.0 ∷ ts) (r.back.back ts h) };
          };
    })

pub next_again : (what : LimitOf) (low high : ℕ) (text : List ℕ) (at n : ℕ) (ts : List Lexeme) → low ≤ n →
    n ≤ high → n < 2 ^ 63 → HasLexemes (drop at text) (next_number n ts) →
    After (next_at what low high text at) (λ e. (n, e)) text ts
unfolding next_at
next_again what low high text at n ts above below fits h =
    after_bind _ (expect_again (sign (codes ",")) text at (number n ∷ ts) refl h) (λ b k.
    ranged_again what low high text b n ts above below fits k)

-- ---- the number of an output

one_digit : (due : ℕ) (w : List ℕ) → due < 10 → writes_digit due w ≡ true → length w ≡ 1 → w ≡ decimal due
unfolding front_len
one_digit due [] low h one = absurd (omega arith)
one_digit due (c ∷ d ∷ ds) low h one = absurd (omega arith)
one_digit due (c ∷ []) low h one = elim (cases_Bool (due == 0)) [
  | inl none ↦ elim (cases_Bool (c == digit_zero)) [
    | inl zero_digit ↦
        let is : c ≡ digit_zero + due = grind (arith, nat_tests) in
        sym (decimal_digit due low ∙ ap (λ (x : ℕ). x ∷ []) (sym is))
    | inr other ↦ absurd (let no = rw (none, other) at h in cc)
  ]
  | inr some ↦ elim (cases_Bool (c == digit_zero)) [
    | inl zero_digit ↦ absurd (let no = rw (some, zero_digit) at h in cc)
    | inr other ↦
        let same : bytes_eq (c ∷ []) ((digit_zero + due) ∷ []) ≡ true = rw (some, other) at h in
        (bytes_eq-Decides (c ∷ []) ((digit_zero + due) ∷ [])).0 same ∙ sym (decimal_digit due low)
  ]
]

pub index_sound : (due : ℕ) (text : List ℕ) (at : ℕ) → due < 10 →
    Sound (index_at due text at) (λ b. Back text at b (λ ts. number due ∷ ts))
unfolding index_at
index_sound due text at low = sound_bind (token_sound text at) (λ t r.
    sound_if (begins is_digit t.1) _ _ (λ digit.
    sound_if (writes_digit due t.1) _ _ (λ writes.
    sound_if (length t.1 == 1) _ _ (λ one.
    sound_ok t.2 (number_back text at due t r digit
    (one_digit due t.1 low writes (eqb-true (length t.1) 1 one)))) (λ more. sound_err _))
    (λ other. sound_err _)) (λ other. sound_err _))

digit_writes : (due : ℕ) → due < 10 → writes_digit due ((digit_zero + due) ∷ []) ≡ true
unfolding front_len
digit_writes zero low = refl
digit_writes (suc d) low =
    let other : (digit_zero + suc d == digit_zero) ≡ false = grind (arith, nat_tests) in
    let same : bytes_eq ((digit_zero + suc d) ∷ []) ((digit_zero + suc d) ∷ []) ≡ true =
    (bytes_eq-Decides ((digit_zero + suc d) ∷ []) ((digit_zero + suc d) ∷ [])).1 refl in
    let some : (suc d == 0) ≡ false = grind (arith, nat_tests) in
    rw (some, other) same

pub index_again : (due : ℕ) (text : List ℕ) (at : ℕ) (ts : List Lexeme) → due < 10 →
    HasLexemes (drop at text) (number due ∷ ts) → After (index_at due text at) (λ b. b) text ts
unfolding index_at
index_again due text at ts low h =
    let digits = decimal_digits due (omega arith) in
    let r = number_token text at due ts digits h in
    let one = decimal_digit due low in
    let writes : writes_digit due (decimal due) ≡ true = ap (writes_digit due) one ∙ digit_writes due low in
    let short : (length (decimal due) == 1) ≡ true = ap (λ (w : List ℕ). length w == 1) one in
    record { place = r.place; is = rw (r.is, digits.some, writes, short) refl; has = r.has }

-- ---- numbered names

-- a number that was read, and what follows it
abbrev read_with : ℕ → List ℕ → Option (ℕ × List ℕ)
read_with n rest = Some (n, rest)

then_alone_some : (o : Option (ℕ × List ℕ)) (n : ℕ) → then_alone o ≡ Some n → o ≡ Some (n, [])
then_alone_some None n e = absurd cc
then_alone_some (Some m) n e = of_parts m.0 m.1 e
  where
    of_parts : (k : ℕ) (rest : List ℕ) → alone (k, rest) ≡ Some n → read_with k rest ≡ read_with n []
    of_parts k [] h = cc
    of_parts k (c ∷ cs) h = absurd cc

pub record IsNumbered (letter limit n : ℕ) (w : List ℕ) : Type 0 where
  pub is : w ≡ letter ∷ decimal n
  pub below : n < limit

pub name_number_sound : (letter limit : ℕ) (w : List ℕ) (n : ℕ) → limit ≤ 2 ^ 128 →
    name_number letter limit w ≡ Some n → IsNumbered letter limit n w
unfolding name_number
name_number_sound letter limit [] n wide e = absurd cc
name_number_sound letter limit (c ∷ ds) n wide e = elim (cases_Bool (c == letter)) [
  | inl same ↦
      let read = then_alone_some (whole_in limit ds) n (rw same at e) in
      let s = stands_there limit ds n [] wide read in
      let is : c ≡ letter = eqb-true c letter same in
      let digits : ds ≡ decimal n = s.stands ∙ append-nil (decimal n) in
      record { is = rw (is, digits) refl; below = s.below }
  | inr other ↦ absurd (let no = rw other at e in cc)
]

pub name_number_again : (letter limit n : ℕ) → limit ≤ 2 ^ 128 → n < limit →
    name_number letter limit (letter ∷ decimal n) ≡ Some n
unfolding name_number
name_number_again letter limit n wide below = rw (eq-eqb letter letter refl, whole_again limit n wide below) refl

pub numbered_named : (letter n : ℕ) → is_letter letter ≡ true → n < 10 ^ 64 → is_name (letter ∷ decimal n) ≡ true
numbered_named letter n h below = rw h (digits_words (decimal n) (decimal_digits n below).all)

is_some_from : (n : ℕ) (o : Option ℕ) → is_some_of n o ≡ true → o ≡ Some n
is_some_from n None h = absurd cc
is_some_from n (Some m) h = ap (λ (k : ℕ). Some k) (eqb-true m n h)

pub due_sound : (letter n : ℕ) (text : List ℕ) (at : ℕ) → is_letter letter ≡ true →
    Sound (due_at letter n text at) (λ b. Back text at b (λ ts. name (letter ∷ decimal n) ∷ ts))
unfolding due_at
due_sound letter n text at is = sound_bind (token_sound text at) (λ t r.
    sound_if (begins is_letter t.1) _ _ (λ first.
    sound_if (is_some_of n (name_number letter 40 t.1)) _ _ (λ due.
    let numbered = name_number_sound letter 40 t.1 n (lit≤ tt) (is_some_from n (name_number letter 40 t.1) due) in
    let below = numbered.below in
    sound_ok t.2 (word_back text at (letter ∷ decimal n) t (numbered_named letter n is (omega arith)) r
    numbered.is)) (λ other. sound_err _)) (λ other. sound_err _))

pub due_again : (letter n : ℕ) (text : List ℕ) (at : ℕ) (ts : List Lexeme) → is_letter letter ≡ true → n < 40 →
    HasLexemes (drop at text) (name (letter ∷ decimal n) ∷ ts) →
    After (due_at letter n text at) (λ b. b) text ts
unfolding due_at
due_again letter n text at ts is below h =
    let r = fixed_again text at (name (letter ∷ decimal n)) ts (numbered_named letter n is (omega arith)) h in
    record {
      place = r.place;
      is =
          rw (r.is, is, name_number_again letter 40 n (lit≤ tt) below, eq-eqb n n refl) refl;
      has = r.has;
    }
