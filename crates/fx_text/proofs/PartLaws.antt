-- What is read as a part of a program stands there, and what stands there is read.
use Rattle.std.proofs.Common.{◌≡◌, ◌≤◌, ◌<◌, ◌-◌, ◌^◌, ◌==◌, ℕ, zero, suc, min, ℤ, pos, neg_ℤ, unsigned_abs, Bool}
use Rattle.std.proofs.Common.{true, false, List, [], ◌∷◌, codes, decimal, drop, Option, Some, None, option_map}
use Rattle.std.proofs.Common.{Ok, refl, sym, subst, arith, rules, inl, inr, lit<}
use Rattle.std.proofs.Math.Nat.{pow-le-pow_right}
use Rattle.std.proofs.lemmas.Bool.{and_parts, false_from_ne_true, lt-leb}
use Rattle.std.proofs.lemmas.Bool.Decides.{nat_tests}
use Rattle.std.proofs.lemmas.Int.{ints}
use Rattle.std.proofs.lemmas.Slice.Eq.{bytes_eq-Decides}
use Rattle.std.specs.List.{list_all, list_any}
use Rattle.std.specs.Option.{option_or}
use Rattle.std.specs.Prelude.{nat_le}
use Rattle.std.specs.Str.{bytes_eq}
use Rattle.fx_eqs.specs.declared.mode.Mode.{Mode}
use Rattle.fx_eqs.specs.declared.mode.Mode.TheVariants.{Nearest, Floor}
use Rattle.fx_code.specs.Code.{OldIsThere, constant_in}
use Rattle.fx_code.specs.Limits.{same_source}
use Rattle.fx_code.specs.declared.fault.LimitOf.TheVariants.{Inputs, Rows, Outputs, InputWidth, Width, Shift, Left}
use Rattle.fx_code.specs.declared.term.CodeTerm.{CodeTerm}
use Rattle.fx_code.specs.declared.term.Read.{Read}
use Rattle.fx_code.specs.declared.term.Read.TheVariants.{Now, Old, In}
use Rattle.fx_text.specs.declared.parts.Head.{Head}
use Rattle.fx_text.specs.declared.term.Place.{Place}
use Rattle.fx_text.specs.declared.term.Store.{Store}
use Rattle.fx_math.specs.Words.{is_accumulator}
use Rattle.fx_nums.specs.Signs.{is_digit, signed}
use Rattle.fx_text.specs.Tokens.{is_letter, is_word, begins, is_name, Lexeme, name, number, sign, text_of}
use Rattle.fx_text.specs.Tokens.{HasLexemes, IsLexeme, row_letter, old_letter, input_letter}
use Rattle.fx_text.specs.Grammar.{row_name, old_name, input_name, source_name, accumulator_name, next_number}
use Rattle.fx_text.specs.Grammar.{closed, constant_tokens, shift_word, SpellsCoefficient, factors_tokens}
use Rattle.fx_text.specs.TokenReading.{is_nothing, name_number}
use Rattle.fx_text.specs.Reading.{accumulator_at, head_at, input_at, sign_at, coefficient_at, source_of}
use Rattle.fx_text.specs.Reading.{is_ahead, checked_source, source_at, term_at, statement_at, constant_at}
use Rattle.fx_text.specs.Reading.{mode_at, store_begins_at, store_at, row_name_at, output_at, end_at}
use Rattle.fx_text.proofs.Bytes.{IsDigits, decimal_digits}
use Rattle.fx_text.proofs.TokenLaws.{Sound, sound_bind, sound_ok, sound_err, sound_if, After, after_bind}
use Rattle.fx_text.proofs.TokenLaws.{after_ok, Back, back_then, Reads, token_sound, word_back, expect_sound}
use Rattle.fx_text.proofs.TokenLaws.{expect_again, pair_sound, pair_again, TokenRead, fixed_again, fixed_back}
use Rattle.fx_text.proofs.TokenLaws.{number_token, end_again}
use Rattle.fx_text.proofs.NumberLaws.{or_fault_sound, number_sound, number_again, next_sound, next_again}
use Rattle.fx_text.proofs.NumberLaws.{index_sound, index_again, name_number_sound, name_number_again}
use Rattle.fx_text.proofs.NumberLaws.{numbered_named, due_sound, due_again}

-- ---- the head

record AccumulatorRead (text : List ℕ) (at : ℕ) (n : ℕ × ℕ) : Type 0 where
  fits : is_accumulator n.0 ≡ true
  back : Back text at n.1 (λ ts. number n.0 ∷ ts)

accumulator_sound : (text : List ℕ) (at : ℕ) → Sound (accumulator_at text at) (AccumulatorRead text at)
unfolding accumulator_at
accumulator_sound text at = sound_bind (number_sound text at) (λ n r.
    sound_if (is_accumulator n.0) _ _ (λ fits. sound_ok n (record { fits = fits; back = r.back })) (λ other.
    sound_err _))

accumulator_again : (text : List ℕ) (at n : ℕ) (ts : List Lexeme) → is_accumulator n ≡ true → n < 2 ^ 63 →
    HasLexemes (drop at text) (number n ∷ ts) → After (accumulator_at text at) (λ e. (n, e)) text ts
unfolding accumulator_at
accumulator_again text at n ts fits below h =
    after_bind _ (number_again text at n ts below h) (λ e k. record { place = e; is = rw fits refl; has = k })

-- the tokens of a head
abbrev pub head_spelled : Head → List Lexeme → List Lexeme
head_spelled h rest =
    name (codes "STEP") ∷ sign (codes "(") ∷ number h.accumulator ∷ next_number h.inputs
    (next_number h.rows (next_number h.outputs (
    sign (codes ")") ∷ sign (codes "{") ∷ rest)))

-- a head within its ranges
pub record HeadFits (h : Head) : Type 0 where
  pub accumulator : is_accumulator h.accumulator ≡ true
  pub accumulator_high : h.accumulator ≤ 64
  pub inputs_low : 1 ≤ h.inputs
  pub inputs_high : h.inputs ≤ 4
  pub rows_low : 1 ≤ h.rows
  pub rows_high : h.rows ≤ 40
  pub outputs_low : 1 ≤ h.outputs
  pub outputs_high : h.outputs ≤ 4

pub record HeadRead (text : List ℕ) (at : ℕ) (h : Head × ℕ) : Type 0 where
  pub fits : HeadFits h.0
  pub back : Back text at h.1 (head_spelled h.0)

accumulator_at_most : (n : ℕ) → is_accumulator n ≡ true → n ≤ 64
accumulator_at_most n h = grind (arith, nat_tests, h)

pub head_sound : (text : List ℕ) (at : ℕ) → Sound (head_at text at) (HeadRead text at)
unfolding head_at
head_sound text at =
    sound_bind (pair_sound (name (codes "STEP")) (sign (codes "(")) text at refl refl) (λ a a_back.
    sound_bind (accumulator_sound text a) (λ w w_read.
    sound_bind (next_sound Inputs 1 4 text w.1) (λ i i_read.
    sound_bind (next_sound Rows 1 40 text i.1) (λ r r_read.
    sound_bind (next_sound Outputs 1 4 text r.1) (λ o o_read.
    sound_bind (pair_sound (sign (codes ")")) (sign (codes "{")) text o.1 refl refl) (λ b b_back.
    sound_ok (record { accumulator = w.0; inputs = i.0; rows = r.0; outputs = o.0 }, b) (record {
      fits = record {
        accumulator = w_read.fits;
        accumulator_high = accumulator_at_most w.0 w_read.fits;
        inputs_low = i_read.low_end;
        inputs_high = i_read.high_end;
        rows_low = r_read.low_end;
        rows_high = r_read.high_end;
        outputs_low = o_read.low_end;
        outputs_high = o_read.high_end;
      };
      back = back_then a_back (back_then w_read.back
          (back_then i_read.back (back_then r_read.back (back_then o_read.back b_back))));
    })))))))

pub head_again : (text : List ℕ) (at : ℕ) (h : Head) (ts : List Lexeme) → HeadFits h →
    HasLexemes (drop at text) (head_spelled h ts) → After (head_at text at) (λ e. (h, e)) text ts
unfolding head_at
head_again text at h ts fits has =
    let w_below : h.accumulator < 2 ^ 63 = omega (arith, fits.accumulator_high) in
    let i_below : h.inputs < 2 ^ 63 = omega (arith, fits.inputs_high) in
    let r_below : h.rows < 2 ^ 63 = omega (arith, fits.rows_high) in
    let o_below : h.outputs < 2 ^ 63 = omega (arith, fits.outputs_high) in
    after_bind _ (pair_again (name (codes "STEP")) (sign (codes "(")) text at _ refl refl has) (λ a k.
    after_bind _ (accumulator_again text a h.accumulator _ fits.accumulator w_below k) (λ b k2.
    after_bind _ (next_again Inputs 1 4 text b h.inputs _ fits.inputs_low fits.inputs_high i_below k2) (λ c k3.
    after_bind _ (next_again Rows 1 40 text c h.rows _ fits.rows_low fits.rows_high r_below k3) (λ d k4.
    after_bind _ (next_again Outputs 1 4 text d h.outputs _ fits.outputs_low fits.outputs_high o_below k4) (λ e k5.
    after_bind _ (pair_again (sign (codes ")")) (sign (codes "{")) text e _ refl refl k5) (λ f k6.
    after_ok (λ x. (h, x)) text ts f k6))))))

-- ---- an input

-- `IN ( uJ , width ) ;`
abbrev pub input_spelled : ℕ → ℕ → List Lexeme → List Lexeme
input_spelled j w rest = name (codes "IN") ∷ sign (codes "(") ∷ input_name j ∷ next_number w (closed rest)

pub input_sound : (j : ℕ) (text : List ℕ) (at : ℕ) →
    Sound (input_at j text at) (λ w. Back text at w.1 (input_spelled j w.0))
unfolding input_at
input_sound j text at =
    sound_bind (pair_sound (name (codes "IN")) (sign (codes "(")) text at refl refl) (λ a a_back.
    sound_bind (due_sound input_letter j text a refl) (λ b b_back.
    sound_bind (next_sound InputWidth 2 32 text b) (λ w w_read.
    sound_bind (pair_sound (sign (codes ")")) (sign (codes ";")) text w.1 refl refl) (λ d d_back.
    sound_ok (w.0, d) (back_then a_back (back_then b_back (back_then w_read.back d_back)))))))

pub input_again : (j w : ℕ) (text : List ℕ) (at : ℕ) (ts : List Lexeme) → j < 40 → 2 ≤ w → w ≤ 32 →
    HasLexemes (drop at text) (input_spelled j w ts) → After (input_at j text at) (λ e. (w, e)) text ts
unfolding input_at
input_again j w text at ts j_below low high h =
    let below : w < 2 ^ 63 = omega arith in
    after_bind _ (pair_again (name (codes "IN")) (sign (codes "(")) text at _ refl refl h) (λ a k.
    after_bind _ (due_again input_letter j text a _ refl j_below k) (λ b k2.
    after_bind _ (next_again InputWidth 2 32 text b w _ low high below k2) (λ c k3.
    after_bind _ (pair_again (sign (codes ")")) (sign (codes ";")) text c _ refl refl k3) (λ d k4.
    after_ok (λ x. (w, x)) text ts d k4))))

-- ---- a coefficient

-- a `-` was read, or nothing
abbrev SignRead : List ℕ → ℕ → Bool → ℕ → Type 0
SignRead text at true e = Back text at e (λ ts. sign (codes "-") ∷ ts)
SignRead text at false e = e ≡ at

sign_sound : (text : List ℕ) (at : ℕ) → Sound (sign_at text at) (λ s. SignRead text at s.0 s.1)
unfolding sign_at
sign_sound text at = sound_bind (token_sound text at) (λ t r.
    sound_if (bytes_eq t.1 (codes "-")) _ _ (λ same.
    sound_ok (true, t.2) (fixed_back text at (sign (codes "-")) t refl r same)) (λ other.
    sound_ok (false, at) refl))

pub record CoefficientRead (text : List ℕ) (at : ℕ) (k : ℤ × ℕ) : Type 0 where
  pub spelled : (ts : List Lexeme) → HasLexemes (drop k.1 text) ts →
      (tokens : List Lexeme) × SpellsCoefficient k.0 tokens ts × HasLexemes (drop at text) tokens

coefficient_spelled : (text : List ℕ) (at e : ℕ) (minus : Bool) (n : ℕ × ℕ) → SignRead text at minus e →
    Back text e n.1 (λ ts. number n.0 ∷ ts) → CoefficientRead text at (signed minus n.0, n.1)
coefficient_spelled text at e true n s r =
    record {
      spelled = λ ts h.
          (sign (codes "-") ∷ number n.0 ∷ ts, inr (n.0, refl, refl), s.back (number n.0 ∷ ts) (r.back ts h));
    }
coefficient_spelled text at e false n s r =
    record { spelled = λ ts h. (number n.0 ∷ ts, inl (n.0, refl, refl), rw s at (r.back ts h)) }

pub coefficient_sound : (text : List ℕ) (at : ℕ) → Sound (coefficient_at text at) (CoefficientRead text at)
unfolding coefficient_at
coefficient_sound text at =
    sound_bind (sign_sound text at) (λ s s_read.
    sound_bind (number_sound text s.1) (λ n n_read.
    sound_if (nat_le (2 ^ 62) n.0) _ _ (λ large. sound_err _) (λ small.
    sound_ok (signed s.0 n.0, n.1) (coefficient_spelled text at s.1 s.0 n s_read n_read.back))))

no_minus : (ds : List ℕ) → IsDigits ds → bytes_eq ds (codes "-") ≡ false
no_minus ds digits = false_from_ne_true (bytes_eq ds (codes "-")) (λ same.
    let is : ds ≡ codes "-" = (bytes_eq-Decides ds (codes "-")).0 same in
    let first : begins is_digit (codes "-") ≡ true = rw is at digits.some in
    cc)

magnitude_minus : (n : ℕ) → unsigned_abs (neg_ℤ (pos n)) ≡ n
magnitude_minus n = omega (arith, ints)

pub coefficient_again : (text : List ℕ) (at : ℕ) (z : ℤ) (tokens ts : List Lexeme) → unsigned_abs z < 2 ^ 62 →
    SpellsCoefficient z tokens ts → HasLexemes (drop at text) tokens →
    After (coefficient_at text at) (λ e. (z, e)) text ts
unfolding coefficient_at sign_at
coefficient_again text at z tokens ts small (inl plain) h =
    let n = plain.0 in
    let below : n < 2 ^ 62 = rw plain.2 at small in
    let has : HasLexemes (drop at text) (number n ∷ ts) = rw plain.1 at h in
    let digits = decimal_digits n (omega arith) in
    let t = number_token text at n ts digits has in
    let r = number_again text at n ts (omega arith) has in
    let same : pos n ≡ z = sym plain.2 in
    record {
      place = r.place;
      is =
          rw (t.is, no_minus (decimal n) digits, r.is, lt-leb (2 ^ 62) n below, same) refl;
      has = r.has;
    }
coefficient_again text at z tokens ts small (inr minus) h =
    let n = minus.0 in
    let same : neg_ℤ (pos n) ≡ z = sym minus.2 in
    let below : n < 2 ^ 62 = rw (minus.2, magnitude_minus n) at small in
    let has : HasLexemes (drop at text) (sign (codes "-") ∷ number n ∷ ts) = rw minus.1 at h in
    let t = fixed_again text at (sign (codes "-")) (number n ∷ ts) refl has in
    let r = number_again text t.place n ts (omega arith) t.has in
    record { place = r.place; is = rw (t.is, r.is, lt-leb (2 ^ 62) n below, same) refl; has = r.has }

-- ---- a source

pub record SourceRead (place : Place) (text : List ℕ) (at : ℕ) (s : Read × ℕ) : Type 0 where
  pub there : OldIsThere place.rows s.0
  pub back : Back text at s.1 (λ ts. sign (codes ",") ∷ source_name s.0 ∷ ts)

-- the name of a source that is there
record IsSource (place : Place) (w : List ℕ) (from : Read) : Type 0 where
  there : OldIsThere place.rows from
  is : w ≡ text_of (source_name from)
  named : is_name (text_of (source_name from)) ≡ true

source_of_sound : (place : Place) (w : List ℕ) (from : Read) → place.rows ≤ 40 → place.inputs ≤ 4 →
    (o1 o2 o3 : Option ℕ) → name_number row_letter place.rows w ≡ o1 →
    name_number old_letter place.rows w ≡ o2 → name_number input_letter place.inputs w ≡ o3
    → option_or (option_map Now o1) (option_or (option_map Old o2) (option_map In o3)) ≡ Some from →
    IsSource place w from
source_of_sound place w from rows inputs (Some i) o2 o3 e1 e2 e3 e =
    let s = name_number_sound row_letter place.rows w i (omega arith) e1 in
    let same : Now i ≡ from = cc in
    subst (IsSource place w) same (record {
      there = search rules;
      is = s.is;
      named =
          numbered_named row_letter i refl (omega (arith, s.below));
    })
source_of_sound place w from rows inputs None (Some i) o3 e1 e2 e3 e =
    let s = name_number_sound old_letter place.rows w i (omega arith) e2 in
    let same : Old i ≡ from = cc in
    subst (IsSource place w) same (record {
      there = s.below;
      is = s.is;
      named =
          numbered_named old_letter i refl (omega (arith, s.below));
    })
source_of_sound place w from rows inputs None None (Some j) e1 e2 e3 e =
    let s = name_number_sound input_letter place.inputs w j (omega arith) e3 in
    let same : In j ≡ from = cc in
    subst (IsSource place w) same (record {
      there = search rules;
      is = s.is;
      named =
          numbered_named input_letter j refl (omega (arith, s.below));
    })
source_of_sound place w from rows inputs None None None e1 e2 e3 e = absurd cc

source_read : (place : Place) (w : List ℕ) (from : Read) → place.rows ≤ 40 → place.inputs ≤ 4 →
    source_of place w ≡ Some from → IsSource place w from
unfolding source_of
source_read place w from rows inputs e =
    source_of_sound place w from rows inputs (name_number row_letter place.rows w)
    (name_number old_letter place.rows w) (name_number input_letter place.inputs w) refl refl refl e

source_back : (text : List ℕ) (at : ℕ) (from : Read) (x : ℕ × List ℕ × ℕ) →
    is_name (text_of (source_name from)) ≡ true → Reads text at x → x.1 ≡ text_of (source_name from) →
    Back text at x.2 (λ ts. source_name from ∷ ts)
source_back text at (Now i) x named r is = word_back text at (row_letter ∷ decimal i) x named r is
source_back text at (Old i) x named r is = word_back text at (old_letter ∷ decimal i) x named r is
source_back text at (In j) x named r is = word_back text at (input_letter ∷ decimal j) x named r is

checked_sound : (row : ℕ) (terms : List CodeTerm) (from : Read) (at : ℕ) →
    Sound (checked_source row terms from at) (λ s. s ≡ (from, at))
checked_sound row terms from at =
    sound_if (is_ahead row from) _ _ (λ ahead. sound_err _) (λ near.
    sound_if (list_any (λ (e : CodeTerm). same_source e.from from) terms) _ _ (λ twice. sound_err _) (λ once.
    sound_ok (from, at) refl))

pub source_sound : (place : Place) (terms : List CodeTerm) (text : List ℕ) (at : ℕ) → place.rows ≤ 40 →
    place.inputs ≤ 4 → Sound (source_at place terms text at) (SourceRead place text at)
unfolding source_at
source_sound place terms text at rows inputs =
    sound_bind (expect_sound (sign (codes ",")) text at refl) (λ b b_back.
    sound_bind (token_sound text b) (λ t r.
    sound_if (begins is_letter t.1) _ _ (λ letter.
    sound_bind (or_fault_sound _ (source_of place t.1)) (λ from e.
    let s = source_read place t.1 from rows inputs e in
    record {
      holds = λ y h.
          let same : (from, t.2) ≡ y = sym ((checked_sound place.row terms from t.2).holds y h) in
          subst (SourceRead place text at) same (record {
            there = s.there;
            back =
                back_then b_back (source_back text b from t s.named r s.is);
          });
    })) (λ other. sound_err _)))

-- its number is below the count of rows or of inputs
abbrev pub IsBelow : Place → Read → Type 0
IsBelow place (Now i) = i < place.rows
IsBelow place (Old i) = i < place.rows
IsBelow place (In j) = j < place.inputs

other_letter : (letter other limit n : ℕ) → (other == letter) ≡ false →
    name_number letter limit (other ∷ decimal n) ≡ None
unfolding name_number
other_letter letter other limit n h = rw h refl

-- a source that a term of this row may read behind earlier ones
pub record SourcePasses (place : Place) (earlier : List CodeTerm) (from : Read) : Type 0 where
  pub near : is_ahead place.row from ≡ false
  pub once : list_any (λ (e : CodeTerm). same_source e.from from) earlier ≡ false
  pub below : IsBelow place from

source_found : (place : Place) (from : Read) → place.rows ≤ 40 → place.inputs ≤ 4 → IsBelow place from →
    (source_of place (text_of (source_name from)) ≡ Some from) × (is_name (text_of (source_name from)) ≡ true)
unfolding source_of
source_found place (Now i) rows inputs below = (
  rw (name_number_again row_letter place.rows i (omega arith) below) refl,
  numbered_named row_letter i refl (omega arith),
)
source_found place (Old i) rows inputs below = (
  rw (
    other_letter row_letter old_letter place.rows i refl,
    name_number_again old_letter place.rows i (omega arith) below,
  ) refl,
  numbered_named old_letter i refl (omega arith),
)
source_found place (In j) rows inputs below = (
  rw (
    other_letter row_letter input_letter place.rows j refl,
    other_letter old_letter input_letter place.rows j refl,
    name_number_again input_letter place.inputs j (omega arith) below,
  ) refl,
  numbered_named input_letter j refl (omega arith),
)

source_token : (text : List ℕ) (at : ℕ) (from : Read) (ts : List Lexeme) →
    is_name (text_of (source_name from)) ≡ true → HasLexemes (drop at text) (source_name from ∷ ts) →
    TokenRead text at (text_of (source_name from)) ts
source_token text at (Now i) ts named h = fixed_again text at (row_name i) ts named h
source_token text at (Old i) ts named h = fixed_again text at (old_name i) ts named h
source_token text at (In j) ts named h = fixed_again text at (input_name j) ts named h

begins_letter : (w : List ℕ) → is_name w ≡ true → begins is_letter w ≡ true
begins_letter [] h = absurd cc
begins_letter (c ∷ cs) h = (and_parts (is_letter c) (list_all is_word cs) h).0

pub source_again : (place : Place) (earlier : List CodeTerm) (from : Read) (text : List ℕ) (at : ℕ)
    (ts : List Lexeme) → place.rows ≤ 40 → place.inputs ≤ 4 → SourcePasses place earlier from →
    HasLexemes (drop at text) (sign (codes ",") ∷ source_name from ∷ ts) →
    After (source_at place earlier text at) (λ e. (from, e)) text ts
unfolding source_at
source_again place earlier from text at ts rows inputs passes h =
    let comma = expect_again (sign (codes ",")) text at (source_name from ∷ ts) refl h in
    let (found, named) = source_found place from rows inputs passes.below in
    let t = source_token text comma.place from ts named comma.has in
    record {
      place = t.place;
      is =
          rw (
            comma.is,
            t.is,
            begins_letter (text_of (source_name from)) named,
            found,
            passes.near,
            passes.once,
          ) refl;
      has = t.has;
    }

-- ---- a term

pub record TermRead (place : Place) (text : List ℕ) (at : ℕ) (t : CodeTerm × ℕ) : Type 0 where
  pub there : OldIsThere place.rows t.0.from
  pub spelled : (ts : List Lexeme) → HasLexemes (drop t.1 text) ts →
      (factors : List Lexeme) × SpellsCoefficient t.0.coef factors (factors_tokens t.0.from t.0.left ts)
      × HasLexemes (drop at text) (sign (codes "+=") ∷ name (codes "MUL") ∷ sign (codes "(") ∷ factors)

pub term_sound : (place : Place) (terms : List CodeTerm) (text : List ℕ) (at : ℕ) → place.rows ≤ 40 →
    place.inputs ≤ 4 → Sound (term_at place terms text at) (TermRead place text at)
unfolding term_at
term_sound place terms text at rows inputs =
    sound_bind (pair_sound (sign (codes "+=")) (name (codes "MUL")) text at refl refl) (λ a a_back.
    sound_bind (expect_sound (sign (codes "(")) text a refl) (λ b b_back.
    sound_bind (coefficient_sound text b) (λ k k_read.
    sound_bind (source_sound place terms text k.1 rows inputs) (λ s s_read.
    sound_bind (next_sound Left 0 62 text s.1) (λ l l_read.
    sound_bind (pair_sound (sign (codes ")")) (sign (codes ";")) text l.1 refl refl) (λ d d_back.
    let last = back_then s_read.back (back_then l_read.back d_back) in
    let first = back_then a_back b_back in
    sound_ok (record { coef = k.0; from = s.0; left = l.0 }, d) (record {
      there = s_read.there;
      spelled = λ ts h.
          let (tokens, spells, has) = k_read.spelled (factors_tokens s.0 l.0 ts) (last.back ts h) in
          (tokens, spells, first.back tokens has);
    })))))))

-- a term that a row may have behind earlier ones
pub record TermPasses (place : Place) (earlier : List CodeTerm) (t : CodeTerm) : Type 0 where
  pub source : SourcePasses place earlier t.from
  pub left : t.left ≤ 62
  pub coefficient : unsigned_abs t.coef < 2 ^ 62

pub term_again : (place : Place) (earlier : List CodeTerm) (t : CodeTerm) (text : List ℕ) (at : ℕ)
    (factors ts : List Lexeme) → place.rows ≤ 40 → place.inputs ≤ 4 → TermPasses place earlier t →
    SpellsCoefficient t.coef factors (factors_tokens t.from t.left ts)
    → HasLexemes (drop at text) (sign (codes "+=") ∷ name (codes "MUL") ∷ sign (codes "(") ∷ factors) →
    After (term_at place earlier text at) (λ e. (t, e)) text ts
unfolding term_at
term_again place earlier t text at factors ts rows inputs passes spells h =
    let below : t.left < 2 ^ 63 = omega (arith, passes.left) in
    after_bind _ (pair_again (sign (codes "+=")) (name (codes "MUL")) text at _ refl refl h) (λ a k.
    after_bind _ (expect_again (sign (codes "(")) text a _ refl k) (λ b k2.
    after_bind _ (coefficient_again text b t.coef factors _ passes.coefficient spells k2) (λ c k3.
    after_bind _ (source_again place earlier t.from text c _ rows inputs passes.source k3) (λ d k4.
    after_bind _ (next_again Left 0 62 text d t.left _ (omega arith) passes.left below k4) (λ e k5.
    after_bind _ (pair_again (sign (codes ")")) (sign (codes ";")) text e _ refl refl k5) (λ f k6.
    after_ok (λ x. (t, x)) text ts f k6))))))

-- ---- the beginning of a statement

-- the `a` of a term, or the name of the row's store
abbrev pub statement_tokens : ℕ → Bool → List Lexeme → List Lexeme
statement_tokens row true ts = accumulator_name ∷ ts
statement_tokens row false ts = row_name row ∷ ts

pub statement_sound : (row : ℕ) (text : List ℕ) (at : ℕ) →
    Sound (statement_at row text at) (λ s. Back text at s.1 (statement_tokens row s.0))
unfolding statement_at
statement_sound row text at = sound_bind (token_sound text at) (λ t r.
    sound_if (bytes_eq t.1 (codes "a")) _ _ (λ same.
    sound_ok (true, t.2) (fixed_back text at accumulator_name t refl r same)) (λ other.
    sound_bind (due_sound row_letter row text at refl) (λ b b_back. sound_ok (false, b) b_back)))

pub statement_of_term : (row : ℕ) (text : List ℕ) (at : ℕ) (ts : List Lexeme) →
    HasLexemes (drop at text) (accumulator_name ∷ ts) →
    After (statement_at row text at) (λ e. (true, e)) text ts
unfolding statement_at
statement_of_term row text at ts h =
    let t = fixed_again text at accumulator_name ts refl h in
    record { place = t.place; is = rw t.is refl; has = t.has }

pub statement_of_store : (row : ℕ) (text : List ℕ) (at : ℕ) (ts : List Lexeme) → row < 40 →
    HasLexemes (drop at text) (row_name row ∷ ts) → After (statement_at row text at) (λ e. (false, e)) text ts
unfolding statement_at
statement_of_store row text at ts below h =
    let t = fixed_again text at (row_name row) ts (numbered_named row_letter row refl (omega arith)) h in
    let d = due_again row_letter row text at ts refl below h in
    record { place = d.place; is = rw (t.is, d.is) refl; has = d.has }

-- ---- the constant and the store

pub record ConstantRead (text : List ℕ) (at : ℕ) (n : ℕ × ℕ) : Type 0 where
  pub back : Back text at n.1 (constant_tokens n.0)

pub constant_sound : (text : List ℕ) (at : ℕ) → Sound (constant_at text at) (ConstantRead text at)
unfolding constant_at
constant_sound text at =
    sound_bind (pair_sound (name (codes "a")) (sign (codes "=")) text at refl refl) (λ a a_back.
    sound_bind (number_sound text a) (λ n n_read.
    sound_bind (expect_sound (sign (codes ";")) text n.1 refl) (λ b b_back.
    sound_ok (n.0, b) (record { back = back_then a_back (back_then n_read.back b_back) }))))

pub constant_again : (text : List ℕ) (at n : ℕ) (ts : List Lexeme) → n < 2 ^ 63 →
    HasLexemes (drop at text) (constant_tokens n ts) → After (constant_at text at) (λ e. (n, e)) text ts
unfolding constant_at
constant_again text at n ts below h =
    after_bind _ (pair_again (name (codes "a")) (sign (codes "=")) text at _ refl refl h) (λ a k.
    after_bind _ (number_again text a n _ below k) (λ b k2.
    after_bind _ (expect_again (sign (codes ";")) text b _ refl k2) (λ c k3.
    after_ok (λ x. (n, x)) text ts c k3)))

-- a row's constant is a number that may be read
pub constant_small : (mode : Mode) (shift : ℕ) → shift ≤ 62 → constant_in mode shift < 2 ^ 63
constant_small Nearest zero h = lit< tt
constant_small Nearest (suc r) h =
    let few : r ≤ 62 = omega arith in
    let below : 2 ^ r ≤ 2 ^ 62 = pow-le-pow_right (lit< tt) few in
    omega arith
constant_small Floor shift h = lit< tt

-- the word of each mode is a name
pub shift_named : (mode : Mode) → IsLexeme (name (shift_word mode))
shift_named Nearest = refl
shift_named Floor = refl

-- the mode that a word stands for
mode_sound : (text : List ℕ) (at : ℕ) →
    Sound (mode_at text at) (λ m. Back text at m.1 (λ ts. name (shift_word m.0) ∷ ts))
unfolding mode_at
mode_sound text at =
    sound_bind (token_sound text at) (λ t r.
    sound_if (bytes_eq t.1 (shift_word Nearest)) _ _ (λ nearest.
    sound_ok (Nearest, t.2) (fixed_back text at (name (shift_word Nearest)) t refl r nearest)) (λ other.
    sound_if (bytes_eq t.1 (shift_word Floor)) _ _ (λ floor.
    sound_ok (Floor, t.2) (fixed_back text at (name (shift_word Floor)) t refl r floor)) (λ neither.
    sound_err _)))

mode_again : (text : List ℕ) (at : ℕ) (mode : Mode) (ts : List Lexeme) →
    HasLexemes (drop at text) (name (shift_word mode) ∷ ts) → After (mode_at text at) (λ e. (mode, e)) text ts
unfolding mode_at
mode_again text at Nearest ts h =
    let t = fixed_again text at (name (shift_word Nearest)) ts refl h in
    record { place = t.place; is = rw t.is refl; has = t.has }
mode_again text at Floor ts h =
    let t = fixed_again text at (name (shift_word Floor)) ts refl h in
    record { place = t.place; is = rw t.is refl; has = t.has }

-- `= LOW ( SAR ( a` or `= LOW ( FLR ( a`
abbrev pub store_begins : Mode → List Lexeme → List Lexeme
store_begins mode rest = sign (codes "=") ∷ name (codes "LOW") ∷ sign (codes "(") ∷ name (shift_word mode) ∷ sign
    (codes "(") ∷ accumulator_name ∷ rest

-- a store behind its name
abbrev pub stored : Store → List Lexeme → List Lexeme
stored s rest =
    store_begins s.mode (next_number s.shift (sign (codes ")") ∷ next_number s.width (closed rest)))

store_begins_sound : (text : List ℕ) (at : ℕ) →
    Sound (store_begins_at text at) (λ m. Back text at m.1 (store_begins m.0))
unfolding store_begins_at
store_begins_sound text at =
    sound_bind (pair_sound (sign (codes "=")) (name (codes "LOW")) text at refl refl) (λ a a_back.
    sound_bind (expect_sound (sign (codes "(")) text a refl) (λ b b_back.
    sound_bind (mode_sound text b) (λ m m_back.
    sound_bind (pair_sound (sign (codes "(")) accumulator_name text m.1 refl refl) (λ c c_back.
    sound_ok (m.0, c) (back_then a_back (back_then b_back (back_then m_back c_back)))))))

store_begins_again : (text : List ℕ) (at : ℕ) (mode : Mode) (ts : List Lexeme) →
    HasLexemes (drop at text) (store_begins mode ts) → After (store_begins_at text at) (λ e. (mode, e)) text ts
unfolding store_begins_at
store_begins_again text at mode ts h =
    after_bind _ (pair_again (sign (codes "=")) (name (codes "LOW")) text at _ refl refl h) (λ a k.
    after_bind _ (expect_again (sign (codes "(")) text a _ refl k) (λ b k2.
    after_bind _ (mode_again text b mode _ k2) (λ c k3.
    after_bind _ (pair_again (sign (codes "(")) accumulator_name text c ts refl refl k3) (λ d k4.
    after_ok (λ x. (mode, x)) text ts d k4))))

pub store_sound : (accumulator : ℕ) (text : List ℕ) (at : ℕ) →
    Sound (store_at accumulator text at) (λ s. Back text at s.1 (stored s.0))
unfolding store_at
store_sound accumulator text at =
    sound_bind (store_begins_sound text at) (λ m m_back.
    sound_bind (next_sound Shift 0 (min 62 (accumulator - 1)) text m.1) (λ s s_read.
    sound_bind (expect_sound (sign (codes ")")) text s.1 refl) (λ b b_back.
    sound_bind (next_sound Width 2 (min 32 accumulator) text b) (λ w w_read.
    sound_bind (pair_sound (sign (codes ")")) (sign (codes ";")) text w.1 refl refl) (λ d d_back.
    sound_ok (record { mode = m.0; shift = s.0; width = w.0 }, d) (back_then m_back
    (back_then s_read.back (back_then b_back (back_then w_read.back d_back)))))))))

pub store_again : (accumulator : ℕ) (s : Store) (text : List ℕ) (at : ℕ) (ts : List Lexeme) →
    s.shift ≤ min 62 (accumulator - 1) → 2 ≤ s.width → s.width ≤ min 32 accumulator →
    HasLexemes (drop at text) (stored s ts) → After (store_at accumulator text at) (λ e. (s, e)) text ts
unfolding store_at
store_again accumulator s text at ts shift_high low high h =
    let shift_below : s.shift < 2 ^ 63 = omega arith in
    let width_below : s.width < 2 ^ 63 = omega arith in
    after_bind _ (store_begins_again text at s.mode _ h) (λ a k.
    after_bind _ (next_again Shift 0 (min 62 (accumulator - 1)) text a s.shift _ (omega arith) shift_high
    shift_below k) (λ b k2.
    after_bind _ (expect_again (sign (codes ")")) text b _ refl k2) (λ c k3.
    after_bind _ (next_again Width 2 (min 32 accumulator) text c s.width _ low high width_below k3) (λ d k4.
    after_bind _ (pair_again (sign (codes ")")) (sign (codes ";")) text d _ refl refl k4) (λ e k5.
    after_ok (λ x. (s, x)) text ts e k5)))))

-- ---- an output

row_name_sound : (rows : ℕ) (text : List ℕ) (at : ℕ) → rows ≤ 40 →
    Sound (row_name_at rows text at) (λ i. Back text at i.1 (λ ts. sign (codes ",") ∷ row_name i.0 ∷ ts))
unfolding row_name_at
row_name_sound rows text at few =
    sound_bind (expect_sound (sign (codes ",")) text at refl) (λ b b_back.
    sound_bind (token_sound text b) (λ t r.
    sound_if (begins is_letter t.1) _ _ (λ letter.
    sound_bind (or_fault_sound _ (name_number row_letter rows t.1)) (λ i e.
    let s = name_number_sound row_letter rows t.1 i (omega arith) e in
    let below = s.below in
    sound_ok (i, t.2) (back_then b_back
    (word_back text b (row_letter ∷ decimal i) t (numbered_named row_letter i refl (omega arith)) r s.is))))
    (λ other. sound_err _)))

row_name_again : (rows i : ℕ) (text : List ℕ) (at : ℕ) (ts : List Lexeme) → rows ≤ 40 → i < rows →
    HasLexemes (drop at text) (sign (codes ",") ∷ row_name i ∷ ts) →
    After (row_name_at rows text at) (λ e. (i, e)) text ts
unfolding row_name_at
row_name_again rows i text at ts few below h =
    let comma = expect_again (sign (codes ",")) text at (row_name i ∷ ts) refl h in
    let t = fixed_again text comma.place (row_name i) ts (numbered_named row_letter i refl (omega arith)) comma.has in
    record {
      place = t.place;
      is =
          rw (comma.is, t.is, name_number_again row_letter rows i (omega arith) below) refl;
      has = t.has;
    }

-- `OUT ( J , rI ) ;`
abbrev pub output_spelled : ℕ → ℕ → List Lexeme → List Lexeme
output_spelled j i rest = name (codes "OUT") ∷ sign (codes "(") ∷ number j ∷ sign (codes ",") ∷ row_name i ∷ closed rest

pub output_sound : (j rows : ℕ) (text : List ℕ) (at : ℕ) → j < 10 → rows ≤ 40 →
    Sound (output_at j rows text at) (λ i. Back text at i.1 (output_spelled j i.0))
unfolding output_at
output_sound j rows text at low few =
    sound_bind (pair_sound (name (codes "OUT")) (sign (codes "(")) text at refl refl) (λ a a_back.
    sound_bind (index_sound j text a low) (λ b b_back.
    sound_bind (row_name_sound rows text b few) (λ i i_back.
    sound_bind (pair_sound (sign (codes ")")) (sign (codes ";")) text i.1 refl refl) (λ d d_back.
    sound_ok (i.0, d) (back_then a_back (back_then b_back (back_then i_back d_back)))))))

pub output_again : (j rows i : ℕ) (text : List ℕ) (at : ℕ) (ts : List Lexeme) → j < 10 → rows ≤ 40 → i < rows →
    HasLexemes (drop at text) (output_spelled j i ts) → After (output_at j rows text at) (λ e. (i, e)) text ts
unfolding output_at
output_again j rows i text at ts low few below h =
    after_bind _ (pair_again (name (codes "OUT")) (sign (codes "(")) text at _ refl refl h) (λ a k.
    after_bind _ (index_again j text a _ low k) (λ b k2.
    after_bind _ (row_name_again rows i text b _ few below k2) (λ c k3.
    after_bind _ (pair_again (sign (codes ")")) (sign (codes ";")) text c _ refl refl k3) (λ d k4.
    after_ok (λ x. (i, x)) text ts d k4))))

-- ---- the end

pub end_sound : (text : List ℕ) (at : ℕ) →
    Sound (end_at text at) (λ _. HasLexemes (drop at text) (sign (codes "}") ∷ []))
unfolding end_at HasLexemes
end_sound text at =
    sound_bind (expect_sound (sign (codes "}")) text at refl) (λ b b_back.
    sound_bind (token_sound text b) (λ t r.
    sound_if (is_nothing t.1) _ _ (λ none. sound_ok tt (b_back.back [] (r.end none))) (λ more. sound_err _)))

pub end_read : (text : List ℕ) (at : ℕ) → HasLexemes (drop at text) (sign (codes "}") ∷ []) → end_at text at ≡ Ok tt
unfolding end_at
end_read text at h =
    let b = expect_again (sign (codes "}")) text at [] refl h in
    let t = end_again text b.place b.has in
    rw (b.is, t.1) refl
