-- Each term has bytes, so the terms of a row are read before the turns run out.
use Rattle.std.proofs.Common.{◌≡◌, ◌≤◌, ◌<◌, ◌+◌, ◌^◌, ◌==◌, ◌&&◌, ◌∙◌, ℕ, zero, suc, Bool, true, false, not}
use Rattle.std.proofs.Common.{nat_le, cond, List, [], ◌∷◌, ◌++◌, codes, length, take, drop, Result, Ok, Err}
use Rattle.std.proofs.Common.{refl, sym, ap, arith}
use Rattle.std.proofs.lemmas.List.{length-take, drop_all}
use Rattle.std.proofs.lemmas.Slice.Eq.{bytes_eq-Decides}
use Rattle.std.specs.List.{list_any}
use Rattle.std.specs.Str.{bytes_eq}
use Rattle.fx_code.specs.Limits.{is_outside, same_source}
use Rattle.fx_code.specs.declared.fault.LimitOf.{LimitOf}
use Rattle.fx_code.specs.declared.fault.LimitOf.TheVariants.{Left}
use Rattle.fx_code.specs.declared.term.CodeTerm.{CodeTerm}
use Rattle.fx_code.specs.declared.term.Read.{Read}
use Rattle.fx_math.specs.Answers.{Fails}
use Rattle.fx_math.specs.Faults.{◌>>=◌}
use Rattle.fx_nums.specs.Whole.{whole_in}
use Rattle.fx_text.specs.declared.fault.CodeFault.{CodeFault}
use Rattle.fx_text.specs.declared.fault.CodeFault.TheVariants.{Unexpected}
use Rattle.fx_text.specs.declared.term.Place.{Place}
use Rattle.fx_text.specs.Laws.{TermsLaw}
use Rattle.fx_nums.specs.Signs.{is_blank, is_digit}
use Rattle.fx_text.specs.Tokens.{is_letter, begins, row_letter}
use Rattle.fx_text.specs.TokenReading.{is_memory, is_nothing, token_at, token_len, front_len, expect_at}
use Rattle.fx_text.specs.TokenReading.{pair_at, number_at, ranged_at, next_at, due_at}
use Rattle.fx_text.specs.Reading.{sign_at, coefficient_at, source_of, is_ahead, checked_source, source_at}
use Rattle.fx_text.specs.Reading.{term_at, statement_at, terms_within, terms_at}
use Rattle.fx_text.proofs.TokenLaws.{Sound, sound_bind, sound_ok, sound_err, sound_if}
use Rattle.fx_text.proofs.NumberLaws.{or_fault_sound}
use Rattle.fx_text.proofs.RepeatedSteps.{fails_on, fails_along}

-- ---- what is read ends at or behind the place where it begins

further : {B : Type 0} {read : Result B CodeFault} (place : B → ℕ) (at b : ℕ) → at ≤ b →
    Sound read (λ x. b ≤ place x) → Sound read (λ x. at ≤ place x)
further place at b le sound = record { holds = λ y e. let more = sound.holds y e in omega arith }

token_ends : (text : List ℕ) (at : ℕ) → Sound (token_at text at) (λ t. at + length t.1 ≤ t.2)
unfolding token_at
token_ends text at =
    let start = at + front_len is_blank (drop at text) in
    let rest = drop start text in
    sound_if (token_len rest == 0 && not (is_nothing rest)) _ _ (λ none. sound_err _) (λ some.
    sound_ok (start, take (token_len rest) rest, start + token_len rest) (let taken =
    length-take (token_len rest) rest in omega arith))

expect_ends : (word text : List ℕ) (at : ℕ) → Sound (expect_at word text at) (λ b. at ≤ b)
unfolding expect_at
expect_ends word text at = sound_bind (token_ends text at) (λ t ends.
    sound_if (bytes_eq t.1 word) _ _ (λ same. sound_ok t.2 (omega arith)) (λ other. sound_err _))

pair_ends : (first second text : List ℕ) (at : ℕ) → Sound (pair_at first second text at) (λ b. at ≤ b)
unfolding pair_at
pair_ends first second text at = sound_bind (expect_ends first text at) (λ middle le.
    further (λ b. b) at middle le (expect_ends second text middle))

number_ends : (text : List ℕ) (at : ℕ) → Sound (number_at text at) (λ n. at ≤ n.1)
unfolding number_at
number_ends text at = sound_bind (token_ends text at) (λ t ends.
    sound_if (begins is_digit t.1) _ _ (λ digit.
    sound_bind (or_fault_sound _ (whole_in (2 ^ 63) t.1)) (λ n is. sound_ok (n.0, t.2) (omega arith)))
    (λ other. sound_err _))

ranged_ends : (what : LimitOf) (low high : ℕ) (text : List ℕ) (at : ℕ) →
    Sound (ranged_at what low high text at) (λ n. at ≤ n.1)
unfolding ranged_at
ranged_ends what low high text at = sound_bind (number_ends text at) (λ n ends.
    sound_if (is_outside low high n.0) _ _ (λ outside. sound_err _) (λ inside. sound_ok n ends))

next_ends : (what : LimitOf) (low high : ℕ) (text : List ℕ) (at : ℕ) →
    Sound (next_at what low high text at) (λ n. at ≤ n.1)
unfolding next_at
next_ends what low high text at = sound_bind (expect_ends (codes ",") text at) (λ b le.
    further (λ (n : ℕ × ℕ). n.1) at b le (ranged_ends what low high text b))

sign_ends : (text : List ℕ) (at : ℕ) → Sound (sign_at text at) (λ s. at ≤ s.1)
unfolding sign_at
sign_ends text at = sound_bind (token_ends text at) (λ t ends.
    sound_if (bytes_eq t.1 (codes "-")) _ _ (λ minus. sound_ok (true, t.2) (omega arith)) (λ plus.
    sound_ok (false, at) (omega arith)))

coefficient_ends : (text : List ℕ) (at : ℕ) → Sound (coefficient_at text at) (λ k. at ≤ k.1)
unfolding coefficient_at
coefficient_ends text at =
    sound_bind (sign_ends text at) (λ s s_ends.
    sound_bind (number_ends text s.1) (λ n n_ends.
    sound_if (nat_le (2 ^ 62) n.0) _ _ (λ large. sound_err _) (λ small. sound_ok _ (omega arith))))

checked_ends : (row : ℕ) (terms : List CodeTerm) (from : Read) (at : ℕ) →
    Sound (checked_source row terms from at) (λ s. at ≤ s.1)
checked_ends row terms from at =
    sound_if (is_ahead row from) _ _ (λ ahead. sound_err _) (λ near.
    sound_if (list_any (λ (e : CodeTerm). same_source e.from from) terms) _ _ (λ twice. sound_err _) (λ once.
    sound_ok (from, at) (omega arith)))

source_ends : (place : Place) (terms : List CodeTerm) (text : List ℕ) (at : ℕ) →
    Sound (source_at place terms text at) (λ s. at ≤ s.1)
unfolding source_at
source_ends place terms text at =
    sound_bind (expect_ends (codes ",") text at) (λ b b_ends.
    sound_bind (token_ends text b) (λ t ends.
    sound_if (begins is_letter t.1) _ _ (λ letter.
    sound_bind (or_fault_sound _ (source_of place t.1)) (λ from is.
    further (λ (s : Read × ℕ). s.1) at t.2 (omega arith) (checked_ends place.row terms from t.2))) (λ other.
    sound_err _)))

term_ends : (place : Place) (terms : List CodeTerm) (text : List ℕ) (at : ℕ) →
    Sound (term_at place terms text at) (λ t. at ≤ t.1)
unfolding term_at
term_ends place terms text at =
    sound_bind (pair_ends (codes "+=") (codes "MUL") text at) (λ a a_ends.
    sound_bind (expect_ends (codes "(") text a) (λ b b_ends.
    sound_bind (coefficient_ends text b) (λ k k_ends.
    sound_bind (source_ends place terms text k.1) (λ s s_ends.
    sound_bind (next_ends Left 0 62 text s.1) (λ l l_ends.
    sound_bind (pair_ends (codes ")") (codes ";") text l.1) (λ d d_ends.
    sound_ok (record { coef = k.0; from = s.0; left = l.0 }, d) (omega arith)))))))

-- a term has its name at least
statement_ends : (row : ℕ) (text : List ℕ) (at : ℕ) → Sound (statement_at row text at) (λ s. s.0 ≡ true → at < s.1)
unfolding statement_at
statement_ends row text at = sound_bind (token_ends text at) (λ t ends.
    sound_if (bytes_eq t.1 (codes "a")) _ _ (λ same.
    let is : t.1 ≡ codes "a" = (bytes_eq-Decides t.1 (codes "a")).0 same in
    let one : length t.1 ≡ 1 = ap length is in
    sound_ok (true, t.2) (λ yes_term. omega arith)) (λ other.
    sound_bind (due_ends row text at) (λ b b_ends. sound_ok (false, b) (λ no_term. absurd cc))))
  where
    due_ends : (row : ℕ) (text : List ℕ) (at : ℕ) → Sound (due_at row_letter row text at) (λ b. Unit {0})
    due_ends row text at = record { holds = λ y e. tt }

pub term_takes_bytes : (place : Place) (terms : List CodeTerm) (text : List ℕ) (at b e : ℕ) (t : CodeTerm)
    (is_term : Bool) → statement_at place.row text at ≡ Ok (is_term, b) → is_term ≡ true
    → term_at place terms text b ≡ Ok (t, e) → at < e
term_takes_bytes place terms text at b e t is_term statement yes_term term =
    let begun : at < b = (statement_ends place.row text at).holds (is_term, b) statement yes_term in
    let ended : b ≤ e = (term_ends place terms text b).holds (t, e) term in
    omega arith

-- ---- one turn more changes nothing

same_bind : {A B : Type 0} {P : A → Type 0} (read : Result A CodeFault) (next later : A → Result B CodeFault) →
    Sound read P → ((x : A) → P x → next x ≡ later x) → (read >>= next) ≡ (read >>= later)
same_bind (Ok x) next later sound same = same x (sound.holds x refl)
same_bind (Err fault) next later sound same = refl

same_if : {B : Type 0} (b : Bool) (x y z : B) → (b ≡ true → x ≡ y) → cond b x z ≡ cond b y z
same_if true x y z same = same refl
same_if false x y z same = refl

-- behind the end there is no token, and no statement
no_token : (text : List ℕ) (at : ℕ) → length text < at → token_at text at ≡ Ok (at, [], at)
unfolding token_at token_len front_len
no_token text at behind =
    let none : drop at text ≡ [] = drop_all at text (omega arith) in
    let blank : front_len is_blank (drop at text) ≡ 0 = ap (front_len is_blank) none in
    let same : at + 0 ≡ at = omega arith in
    let start : at + front_len is_blank (drop at text) ≡ at = ap (λ (n : ℕ). at + n) blank ∙ same in
    rw (start, none) (ap (λ (e : ℕ). Ok (at, [], e)) same)

no_statement : (row : ℕ) (text : List ℕ) (at : ℕ) → length text < at → statement_at row text at ≡ Err (Unexpected at)
unfolding statement_at due_at
no_statement row text at behind = rw (no_token text at behind) refl

turn_more : (turns : ℕ) (place : Place) (terms : List CodeTerm) (text : List ℕ) (at : ℕ) →
    length text < at + turns → terms_within turns place terms text at
    ≡ terms_within (suc turns) place terms text at
unfolding terms_within
turn_more zero place terms text at behind = rw (no_statement place.row text at (omega arith)) refl
turn_more (suc turns) place terms text at behind =
    same_bind (statement_at place.row text at) _ _ (statement_ends place.row text at) (λ s begun.
    same_if s.0 _ _ _ (λ is_term.
    same_bind (term_at place terms text s.1) _ _ (term_ends place terms text s.1) (λ t ended.
    let start = begun is_term in
    turn_more turns place (terms ++ t.0 ∷ []) text t.1 (omega arith))))

pub terms_law : TermsLaw
unfolding terms_within
terms_law place terms text at =
    same_bind (statement_at place.row text at) _ _ (statement_ends place.row text at) (λ s begun.
    same_if s.0 _ _ _ (λ is_term.
    same_bind (term_at place terms text s.1) _ _ (term_ends place terms text s.1) (λ t ended.
    let start = begun is_term in
    turn_more (length text) place (terms ++ t.0 ∷ []) text t.1 (omega arith))))

-- ---- the terms that were read, and those that follow

-- what follows a term
abbrev term_on : Place → List CodeTerm → List ℕ → CodeTerm × ℕ → Result (List CodeTerm × ℕ) CodeFault
term_on place terms text t = terms_at place (terms ++ t.0 ∷ []) text t.1

-- what follows the beginning of a statement
abbrev terms_on : Place → List CodeTerm → List ℕ → Bool × ℕ → Result (List CodeTerm × ℕ) CodeFault
terms_on place terms text s = cond s.0 (term_at place terms text s.1 >>= term_on place terms text) (Ok (terms, s.1))

pub term_goes_on : (place : Place) (terms : List CodeTerm) (text : List ℕ) (at b e : ℕ) (t : CodeTerm)
    (is_term : Bool) (total : Result (List CodeTerm × ℕ) CodeFault)
    → statement_at place.row text at ≡ Ok (is_term, b) → is_term ≡ true → term_at place terms text b ≡ Ok (t, e)
    → terms_at place terms text at ≡ total → terms_at place (terms ++ t ∷ []) text e ≡ total
term_goes_on place terms text at b e t is_term total statement yes_term term so_far =
    let one : terms_at place terms text at ≡ terms_at place (terms ++ t ∷ []) text e =
    terms_law place terms text at ∙ rw (statement, yes_term, term) refl in
    sym one ∙ so_far

pub terms_end : (place : Place) (terms : List CodeTerm) (text : List ℕ) (at b : ℕ) (is_term : Bool)
    (total : Result (List CodeTerm × ℕ) CodeFault)
    → statement_at place.row text at ≡ Ok (is_term, b) → is_term ≡ false →
    terms_at place terms text at ≡ total → total ≡ Ok (terms, b)
terms_end place terms text at b is_term total statement no_term so_far =
    let one : terms_at place terms text at ≡ Ok (terms, b) =
    terms_law place terms text at ∙ rw (statement, no_term) refl in
    sym so_far ∙ one

pub statement_fails : (e : CodeFault) (place : Place) (terms : List CodeTerm) (text : List ℕ) (at : ℕ)
    (total : Result (List CodeTerm × ℕ) CodeFault)
    → Fails is_memory e (statement_at place.row text at) → terms_at place terms text at ≡ total →
    Fails is_memory e total
statement_fails e place terms text at total failed so_far =
    let next = terms_on place terms text in
    fails_along e (statement_at place.row text at >>= next) total (sym (terms_law place terms text at)
    ∙ so_far) (fails_on e (statement_at place.row text at) next failed)

pub term_fails : (e : CodeFault) (place : Place) (terms : List CodeTerm) (text : List ℕ) (at b : ℕ)
    (is_term : Bool) (total : Result (List CodeTerm × ℕ) CodeFault)
    → statement_at place.row text at ≡ Ok (is_term, b) → is_term ≡ true → Fails is_memory e (term_at place terms text b)
    → terms_at place terms text at ≡ total → Fails is_memory e total
term_fails e place terms text at b is_term total statement yes_term failed so_far =
    let next = term_on place terms text in
    let one : terms_at place terms text at ≡ (term_at place terms text b >>= next) =
    terms_law place terms text at ∙ rw (statement, yes_term) refl in
    fails_along e (term_at place terms text b >>= next) total (sym one ∙ so_far)
    (fails_on e (term_at place terms text b) next failed)
