-- What is read as a token stands there, and what stands there is read.
use Rattle.std.proofs.Common.{◌≡◌, ◌≤◌, ◌+◌, ◌==◌, ◌&&◌, ◌∙◌, ℕ, zero, suc, Bool, true, false, not, cond, List}
use Rattle.std.proofs.Common.{[], ◌∷◌, ◌++◌, codes, decimal, length, take, drop, Result, Ok, Err, refl, sym, ap}
use Rattle.std.proofs.Common.{subst, arith, rules, inl, inr}
use Rattle.std.proofs.lemmas.Bool.{cases_Bool, and_parts, cond_both}
use Rattle.std.proofs.lemmas.Bool.Decides.{nat_tests}
use Rattle.std.proofs.lemmas.List.{append-nil, take-append-drop, drop-drop, length-take-le, take_at, drop_at, drop_all}
use Rattle.std.proofs.lemmas.Slice.Eq.{bytes_eq-Decides}
use Rattle.std.specs.List.{list_all}
use Rattle.std.specs.Str.{bytes_eq}
use Rattle.fx_text.specs.declared.fault.CodeFault.{CodeFault}
use Rattle.fx_nums.specs.Signs.{is_blank, is_digit, plus_sign}
use Rattle.fx_text.specs.Tokens.{is_letter, is_word, begins, is_name, is_sign, Lexeme, name, number, sign}
use Rattle.fx_text.specs.Tokens.{text_of, FirstLexeme, HasLexemes}
use Rattle.fx_math.specs.Faults.{◌>>=◌}
use Rattle.fx_text.specs.TokenReading.{front_len, is_mark, is_equals, token_len, token_at, is_nothing}
use Rattle.fx_text.specs.TokenReading.{expect_at, pair_at}
use Rattle.fx_text.proofs.Bytes.{front_all, front_len_le, front_again, front_exact, front_passes, letter_word}
use Rattle.fx_text.proofs.Bytes.{letter_not_blank, digit_not_letter, digit_not_blank, IsDigits}

-- ---- steps, read and stood

-- what a step reads has a property
pub record Sound {B : Type 0} (read : Result B CodeFault) (P : B → Type 0) : Type 0 where
  pub holds : (y : B) → read ≡ Ok y → P y

pub sound_bind : {A B : Type 0} {read : Result A CodeFault} {next : A → Result B CodeFault} {P : A →
    Type 0} {Q : B → Type 0} → Sound read P → ((x : A) → P x → Sound (next x) Q) → Sound (read >>= next) Q
sound_bind {A} {B} {read} {next} {P} {Q} first second = record { holds = λ y e. cases read first.holds y e }
  where
    cases : (r : Result A CodeFault) → ((x : A) → r ≡ Ok x → P x) → (y : B) → (r >>= next) ≡ Ok y → Q y
    cases (Ok x) f y e = (second x (f x refl)).holds y e
    cases (Err fault) f y e = absurd cc

pub sound_ok : {B : Type 0} {P : B → Type 0} (x : B) → P x → Sound {B = B} (Ok x) P
sound_ok {B} {P} x h = record { holds = λ y e. let same : x ≡ y = cc in subst P same h }

pub sound_err : {B : Type 0} {P : B → Type 0} (fault : CodeFault) → Sound {B = B} (Err fault) P
sound_err {B} {P} fault = record { holds = λ y e. absurd cc }

pub sound_if : {B : Type 0} {P : B → Type 0} (b : Bool) (x y : Result B CodeFault) → (b ≡ true → Sound x P) →
    (b ≡ false → Sound y P) → Sound (cond b x y) P
sound_if {B} {P} b x y = cond_both b x y (λ r. Sound r P)

-- a step reads on, to a place from which the text has the tokens that are left
pub record After {B : Type 0} (read : Result B CodeFault) (made : ℕ →
    B) (text : List ℕ) (ts : List Lexeme) : Type 0 where
  pub place : ℕ
  pub is : read ≡ Ok (made place)
  pub has : HasLexemes (drop place text) ts

pub after_bind : {A B : Type 0} {read : Result A CodeFault} (next : A → Result B CodeFault) {made : ℕ →
    A} {last : ℕ → B} {text : List ℕ} {us ts : List Lexeme} → After read made text us →
    ((e : ℕ) → HasLexemes (drop e text) us → After (next (made e)) last text ts) →
    After (read >>= next) last text ts
after_bind next first second =
    let more = second first.place first.has in
    record { place = more.place; is = rw first.is more.is; has = more.has }

pub after_ok : {B : Type 0} (made : ℕ → B) (text : List ℕ) (ts : List Lexeme) (e : ℕ) →
    HasLexemes (drop e text) ts → After (Ok (made e)) made text ts
after_ok made text ts e h = record { place = e; is = refl; has = h }

-- the tokens from one place to another, before what follows them
pub record Back (text : List ℕ) (at b : ℕ) (us : List Lexeme → List Lexeme) : Type 0 where
  pub back : (ts : List Lexeme) → HasLexemes (drop b text) ts → HasLexemes (drop at text) (us ts)

pub back_then : {text : List ℕ} {a b c : ℕ} {f g : List Lexeme → List Lexeme} → Back text a b f →
    Back text b c g → Back text a c (λ ts. f (g ts))
back_then {text} {a} {b} {c} {f} {g} first second = record { back = λ ts h. first.back (g ts) (second.back ts h) }

-- ---- the next token

two_le : (cs : List ℕ) → begins is_equals cs ≡ true → 2 ≤ suc (length cs)
two_le [] h = absurd cc
two_le (c ∷ cs) h = omega arith

token_len_le : (text : List ℕ) → token_len text ≤ length text
unfolding token_len
token_len_le [] = omega arith
token_len_le (c ∷ cs) =
    cond_both (is_letter c) _ _ (λ n. n ≤ length (c ∷ cs)) (λ h. front_len_le is_word (c ∷ cs)) (λ h.
    cond_both (is_digit c) _ _ (λ n. n ≤ length (c ∷ cs)) (λ h. front_len_le is_digit (c ∷ cs)) (λ h.
    cond_both (is_mark c) _ _ (λ n. n ≤ length (c ∷ cs)) (λ h. omega arith) (λ h.
    cond_both (c == plus_sign && begins is_equals cs) _ _ (λ n. n ≤ length (c ∷ cs)) (λ h.
    two_le cs (and_parts (c == plus_sign) (begins is_equals cs) h).1) (λ h. omega arith))))

pub record Reads (text : List ℕ) (at : ℕ) (t : ℕ × List ℕ × ℕ) : Type 0 where
  pub blanks : List ℕ
  pub are_blank : list_all is_blank blanks ≡ true
  pub stands : drop at text ≡ blanks ++ (t.1 ++ drop t.2 text)
  pub size : token_len (t.1 ++ drop t.2 text) ≡ length t.1
  pub end : is_nothing t.1 ≡ true → list_all is_blank (drop at text) ≡ true

no_token : (n : ℕ) (rest : List ℕ) → (n == 0 && not (is_nothing rest)) ≡ false →
    is_nothing (take n rest) ≡ true → rest ≡ []
no_token n [] h e = refl
no_token zero (c ∷ cs) h e = absurd cc
no_token (suc n) (c ∷ cs) h e = absurd cc

pub token_sound : (text : List ℕ) (at : ℕ) → Sound (token_at text at) (Reads text at)
unfolding token_at
token_sound text at =
    let d = drop at text in
    let bl = front_len is_blank d in
    let rest = drop (at + bl) text in
    let n = token_len rest in
    let whole : take bl d ++ drop bl d ≡ d = take-append-drop bl d in
    let same : drop bl d ≡ rest = drop-drop bl at text in
    let inner : take n rest ++ drop n rest ≡ rest = take-append-drop n rest in
    let last : drop n rest ≡ drop (at + bl + n) text = drop-drop n (at + bl) text in
    sound_if (n == 0 && not (is_nothing rest)) _ _ (λ h. sound_err _) (λ h.
    sound_ok (at + bl, take n rest, at + bl + n) (record {
      blanks = take bl d;
      are_blank = front_all is_blank d;
      stands = sym whole ∙ ap (λ (t : List ℕ). take bl d ++ t) (same ∙ sym inner
          ∙ ap (λ (t : List ℕ). take n rest ++ t) last);
      size = ap token_len (ap (λ (t : List ℕ). take n rest ++ t) (sym last) ∙ inner)
          ∙ sym (length-take-le n rest (token_len_le rest));
      end = λ e.
          let none = no_token n rest h e in
          let all : take bl d ≡ d = sym (append-nil (take bl d))
          ∙ ap (λ (t : List ℕ). take bl d ++ t) (sym (same ∙ none)) ∙ whole in
          ap (list_all is_blank) (sym all) ∙ front_all is_blank d;
    }))

-- ---- what was read stands there

name_ends : (w rest : List ℕ) → is_name w ≡ true → token_len (w ++ rest) ≡ length w → begins is_word rest ≡ false
unfolding token_len
name_ends [] rest h e = absurd cc
name_ends (c ∷ cs) rest h e =
    let (letter, words) = and_parts (is_letter c) (list_all is_word cs) h in
    let all : list_all is_word (c ∷ cs) ≡ true = rw (letter_word c letter) words in
    let len : front_len is_word (c ∷ (cs ++ rest)) ≡ length (c ∷ cs) = rw letter at e in
    front_exact is_word (c ∷ cs) rest all len

number_ends : (w rest : List ℕ) → begins is_digit w ≡ true → list_all is_digit w ≡ true →
    token_len (w ++ rest) ≡ length w → begins is_digit rest ≡ false
unfolding token_len
number_ends [] rest h all e = absurd cc
number_ends (c ∷ cs) rest h all e =
    let len : front_len is_digit (c ∷ (cs ++ rest)) ≡ length (c ∷ cs) = rw (digit_not_letter c h, h) at e in
    front_exact is_digit (c ∷ cs) rest all len

pub number_digits : (w rest : List ℕ) → begins is_digit w ≡ true → token_len (w ++ rest) ≡ length w →
    list_all is_digit w ≡ true
unfolding token_len
number_digits [] rest h e = absurd cc
number_digits (c ∷ cs) rest h e =
    let len : front_len is_digit (c ∷ (cs ++ rest)) ≡ length (c ∷ cs) = rw (digit_not_letter c h, h) at e in
    front_passes is_digit (c ∷ cs) rest len

-- a name or a sign
abbrev pub IsFixed : Lexeme → Type 0
IsFixed (name w) = is_name w ≡ true
IsFixed (number n) = ⊥
IsFixed (sign s) = is_sign s ≡ true

fixed_stands : (text : List ℕ) (at : ℕ) (t : Lexeme) (start e : ℕ) → IsFixed t →
    Reads text at (start, text_of t, e) → FirstLexeme (drop at text) t (drop e text)
fixed_stands text at (name w) start e fixed r =
    record {
      blanks = r.blanks;
      are_blank = r.are_blank;
      valid = fixed;
      stands = r.stands;
      ends =
          name_ends w (drop e text) fixed r.size;
    }
fixed_stands text at (number n) start e fixed r = absurd fixed
fixed_stands text at (sign s) start e fixed r =
    record { blanks = r.blanks; are_blank = r.are_blank; valid = fixed; stands = r.stands; ends = search rules }

pub number_stands : (text : List ℕ) (at n : ℕ) (t : ℕ × List ℕ × ℕ) → Reads text at t → t.1 ≡ decimal n →
    IsDigits t.1 → FirstLexeme (drop at text) (number n) (drop t.2 text)
number_stands text at n t r same digits = record {
  blanks = r.blanks;
  are_blank = r.are_blank;
  valid = search rules;
  stands = r.stands ∙ ap (λ (w : List ℕ). r.blanks ++ (w ++ drop t.2 text)) same;
  ends = number_ends t.1 (drop t.2 text) digits.some digits.all r.size;
}

pub word_back : (text : List ℕ) (at : ℕ) (w : List ℕ) (x : ℕ × List ℕ × ℕ) → is_name w ≡ true →
    Reads text at x → x.1 ≡ w → Back text at x.2 (λ ts. name w ∷ ts)
unfolding HasLexemes
word_back text at w x named r is =
    let first = fixed_stands text at (name w) x.0 x.2 named
    (subst (λ (v : List ℕ). Reads text at (x.0, v, x.2)) is r) in
    record { back = λ ts h. (drop x.2 text, first, h) }

pub number_back : (text : List ℕ) (at n : ℕ) (x : ℕ × List ℕ × ℕ) → Reads text at x →
    begins is_digit x.1 ≡ true → x.1 ≡ decimal n → Back text at x.2 (λ ts. number n ∷ ts)
unfolding HasLexemes
number_back text at n x r digit is =
    let first = number_stands text at n x r is (record {
      some = digit;
      all =
          number_digits x.1 (drop x.2 text) digit r.size;
    }) in
    record { back = λ ts h. (drop x.2 text, first, h) }

pub fixed_back : (text : List ℕ) (at : ℕ) (t : Lexeme) (x : ℕ × List ℕ × ℕ) → IsFixed t → Reads text at x →
    bytes_eq x.1 (text_of t) ≡ true → Back text at x.2 (λ ts. t ∷ ts)
unfolding HasLexemes
fixed_back text at t x fixed r same =
    let is : x.1 ≡ text_of t = (bytes_eq-Decides x.1 (text_of t)).0 same in
    let first = fixed_stands text at t x.0 x.2 fixed (subst (λ (w : List ℕ). Reads text at (x.0, w, x.2)) is r) in
    record { back = λ ts h. (drop x.2 text, first, h) }

pub expect_sound : (t : Lexeme) (text : List ℕ) (at : ℕ) → IsFixed t →
    Sound (expect_at (text_of t) text at) (λ b. Back text at b (λ ts. t ∷ ts))
unfolding expect_at
expect_sound t text at fixed = sound_bind (token_sound text at) (λ x r.
    sound_if (bytes_eq x.1 (text_of t)) _ _ (λ same. sound_ok x.2 (fixed_back text at t x fixed r same))
    (λ other. sound_err _))

pub pair_sound : (s t : Lexeme) (text : List ℕ) (at : ℕ) → IsFixed s → IsFixed t →
    Sound (pair_at (text_of s) (text_of t) text at) (λ b. Back text at b (λ ts. s ∷ t ∷ ts))
unfolding pair_at
pair_sound s t text at s_fixed t_fixed = sound_bind (expect_sound s text at s_fixed) (λ m first.
    record {
      holds = λ b e. let second = (expect_sound t text m t_fixed).holds b e in
          record { back = λ ts h. first.back (t ∷ ts) (second.back ts h) };
    })

-- ---- what stands there is read

record IsFirst (w rest : List ℕ) : Type 0 where
  filled : begins is_blank (w ++ rest) ≡ false
  size : token_len (w ++ rest) ≡ length w
  some : (length w == 0) ≡ false

name_first : (w rest : List ℕ) → is_name w ≡ true → begins is_word rest ≡ false → IsFirst w rest
unfolding token_len
name_first [] rest h stop = absurd cc
name_first (c ∷ cs) rest h stop =
    let (letter, words) = and_parts (is_letter c) (list_all is_word cs) h in
    let all : list_all is_word (c ∷ cs) ≡ true = rw (letter_word c letter) words in
    record {
      filled = letter_not_blank c letter;
      size =
          rw letter (front_again is_word (c ∷ cs) rest all stop);
      some = grind (arith, nat_tests);
    }

digits_first : (w rest : List ℕ) → IsDigits w → begins is_digit rest ≡ false → IsFirst w rest
unfolding token_len
digits_first [] rest h stop = absurd (let no_digit = h.some in cc)
digits_first (c ∷ cs) rest h stop =
    record {
      filled = digit_not_blank c h.some;
      size =
          rw (digit_not_letter c h.some, h.some) (front_again is_digit (c ∷ cs) rest h.all stop);
      some =
          grind (arith, nat_tests);
    }

sign_first : (s rest : List ℕ) → is_sign s ≡ true → IsFirst s rest
unfolding token_len
sign_first s rest h =
    elim (cases_Bool (bytes_eq s (codes "{"))) [
      | inl e ↦ at_sign (codes "{") e (record { filled = refl; size = refl; some = refl })
      | inr no1 ↦
          elim (cases_Bool (bytes_eq s (codes "}"))) [
            | inl e ↦ at_sign (codes "}") e (record { filled = refl; size = refl; some = refl })
            | inr no2 ↦
                elim (cases_Bool (bytes_eq s (codes "("))) [
                  | inl e ↦ at_sign (codes "(") e (record { filled = refl; size = refl; some = refl })
                  | inr no3 ↦
                      elim (cases_Bool (bytes_eq s (codes ")"))) [
                        | inl e ↦ at_sign (codes ")") e (record { filled = refl; size = refl; some = refl })
                        | inr no4 ↦
                            elim (cases_Bool (bytes_eq s (codes ","))) [
                              | inl e ↦ at_sign (codes ",") e (record { filled = refl; size = refl; some = refl })
                              | inr no5 ↦
                                  elim (cases_Bool (bytes_eq s (codes ";"))) [
                                    | inl e ↦ at_sign (codes ";") e (record { filled = refl; size = refl; some = refl })
                                    | inr no6 ↦
                                        elim (cases_Bool (bytes_eq s (codes "="))) [
                                          | inl e ↦ at_sign (codes "=") e
                                              (record { filled = refl; size = refl; some = refl })
                                          | inr no7 ↦
                                              elim (cases_Bool (bytes_eq s (codes "+="))) [
                                                | inl e ↦ at_sign (codes "+=") e
                                                    (record { filled = refl; size = refl; some = refl })
                                                | inr no8 ↦
                                                    elim (cases_Bool (bytes_eq s (codes "-"))) [
                                                      | inl e ↦ at_sign (codes "-") e
                                                          (record { filled = refl; size = refl; some = refl })
                                                      | inr no9 ↦
                                                          absurd (let none = rw (
                                                            no1,
                                                            no2,
                                                            no3,
                                                            no4,
                                                            no5,
                                                            no6,
                                                            no7,
                                                            no8,
                                                            no9,
                                                          ) at h in cc)
                                                    ]
                                              ]
                                        ]
                                  ]
                            ]
                      ]
                ]
          ]
    ]
  where
    at_sign : (t : List ℕ) → bytes_eq s t ≡ true → IsFirst t rest → IsFirst s rest
    at_sign t e f = let same : t ≡ s = sym ((bytes_eq-Decides s t).0 e) in subst (λ (w : List ℕ). IsFirst w rest) same f

-- the token that was read, and what the text has behind it
pub record TokenRead (text : List ℕ) (at : ℕ) (w : List ℕ) (ts : List Lexeme) : Type 0 where
  pub start : ℕ
  pub place : ℕ
  pub is : token_at text at ≡ Ok (start, w, place)
  pub has : HasLexemes (drop place text) ts

first_read : (text : List ℕ) (at : ℕ) (t : Lexeme) (rest : List ℕ) (ts : List Lexeme) →
    FirstLexeme (drop at text) t rest → IsFirst (text_of t) rest → HasLexemes rest ts →
    TokenRead text at (text_of t) ts
unfolding token_at
first_read text at t rest ts h f more =
    let w = text_of t in
    let bl = length h.blanks in
    let blank : front_len is_blank (drop at text) ≡ bl =
    ap (front_len is_blank) h.stands ∙ front_again is_blank h.blanks (w ++ rest) h.are_blank f.filled in
    let begin : drop (at + bl) text ≡ w ++ rest = sym (drop-drop bl at text) ∙ ap (drop bl) h.stands
    ∙ drop_at h.blanks (w ++ rest) bl refl in
    let taken : take (length w) (w ++ rest) ≡ w = take_at w rest (length w) refl in
    let left : drop (at + bl + length w) text ≡ rest = sym (drop-drop (length w) (at + bl) text)
    ∙ ap (drop (length w)) begin ∙ drop_at w rest (length w) refl in
    record {
      start = at + bl;
      place = at + bl + length w;
      is = rw (blank, begin, f.size, f.some, taken) refl;
      has = rw left more;
    }

pub fixed_again : (text : List ℕ) (at : ℕ) (t : Lexeme) (ts : List Lexeme) → IsFixed t →
    HasLexemes (drop at text) (t ∷ ts) → TokenRead text at (text_of t) ts
unfolding HasLexemes
fixed_again text at (name w) ts fixed h =
    first_read text at (name w) h.0 ts h.1 (name_first w h.0 h.1.valid h.1.ends) h.2
fixed_again text at (number n) ts fixed h = absurd fixed
fixed_again text at (sign s) ts fixed h = first_read text at (sign s) h.0 ts h.1 (sign_first s h.0 h.1.valid) h.2

pub number_token : (text : List ℕ) (at n : ℕ) (ts : List Lexeme) → IsDigits (decimal n) →
    HasLexemes (drop at text) (number n ∷ ts) → TokenRead text at (decimal n) ts
unfolding HasLexemes
number_token text at n ts digits h =
    first_read text at (number n) h.0 ts h.1 (digits_first (decimal n) h.0 digits h.1.ends) h.2

pub expect_again : (t : Lexeme) (text : List ℕ) (at : ℕ) (ts : List Lexeme) → IsFixed t →
    HasLexemes (drop at text) (t ∷ ts) → After (expect_at (text_of t) text at) (λ b. b) text ts
unfolding expect_at
expect_again t text at ts fixed h =
    let r = fixed_again text at t ts fixed h in
    let same : bytes_eq (text_of t) (text_of t) ≡ true = (bytes_eq-Decides (text_of t) (text_of t)).1 refl in
    record { place = r.place; is = rw (r.is, same) refl; has = r.has }

pub pair_again : (s t : Lexeme) (text : List ℕ) (at : ℕ) (ts : List Lexeme) → IsFixed s → IsFixed t →
    HasLexemes (drop at text) (s ∷ t ∷ ts) → After (pair_at (text_of s) (text_of t) text at) (λ b. b) text ts
unfolding pair_at
pair_again s t text at ts s_fixed t_fixed h =
    after_bind _ (expect_again s text at (t ∷ ts) s_fixed h) (λ m k. expect_again t text m ts t_fixed k)

-- the end of the text
pub end_again : (text : List ℕ) (at : ℕ) → HasLexemes (drop at text) [] → (e : ℕ) × (token_at text at ≡ Ok (e, [], e))
unfolding token_at token_len HasLexemes
end_again text at h =
    let d = drop at text in
    let blank : front_len is_blank d ≡ length d = ap (front_len is_blank) (sym (append-nil d))
    ∙ front_again is_blank d [] h refl in
    let none : drop (at + length d) text ≡ [] = sym (drop-drop (length d) at text)
    ∙ drop_all (length d) d (omega arith) in
    (at + length d, rw (blank, none) (ap (λ (e : ℕ). Ok (at + length d, [], e)) (omega arith)))
