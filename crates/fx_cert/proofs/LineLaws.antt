-- Lines and their text.
use Rattle.std.proofs.Common.{◌≡◌, ◌==◌, ◌∙◌, ℕ, Bool, true, false, not, cond, List, [], ◌∷◌, ◌++◌, length}
use Rattle.std.proofs.Common.{refl, sym, ap, arith, inl, inr}
use Rattle.std.proofs.lemmas.Bool.{cases_Bool, and_parts, eqb-true}
use Rattle.std.proofs.lemmas.Bool.Decides.{nat_tests}
use Rattle.std.proofs.lemmas.List.{append-nil}
use Rattle.fx_cert.specs.Laws.{JoinedLaw, LinesLaw}
use Rattle.fx_cert.specs.Lines.{AreLines, IsEnded, TextLine, are_none, in_line, joined, lines_of, no_feed}

joined_in_line : (c : ℕ) (ls : List TextLine) → joined (in_line c ls) ≡ c ∷ joined ls
joined_in_line c [] = refl
joined_in_line c (l ∷ ls) = refl

pub lines_join : (bytes : List ℕ) → joined (lines_of bytes) ≡ bytes
unfolding lines_of
lines_join [] = refl
lines_join (c ∷ cs) = elim (cases_Bool (c == 10)) [
  | inl feed ↦
      let ten : c ≡ 10 = eqb-true c 10 feed in
      rw (feed, lines_join cs) (ap (λ (x : ℕ). x ∷ cs) (sym ten))
  | inr other ↦ rw other (joined_in_line c (lines_of cs) ∙ ap (λ (t : List ℕ). c ∷ t) (lines_join cs))
]

-- a text with no line feed, and a line feed behind it, is a line
pub line_again : (text rest : List ℕ) → no_feed text ≡ true →
    lines_of (text ++ 10 ∷ rest) ≡ record { text = text; ended = true } ∷ lines_of rest
unfolding lines_of
line_again [] rest h = refl
line_again (c ∷ cs) rest h =
    let parts = and_parts (not (c == 10)) (no_feed cs) h in
    let other : (c == 10) ≡ false = grind (arith, nat_tests) in
    rw (other, line_again cs rest parts.1) refl

-- ---- no lines are those of no bytes

in_line_some : (c : ℕ) (ls : List TextLine) → are_none (in_line c ls) ≡ false
in_line_some c [] = refl
in_line_some c (l ∷ ls) = refl

some : (c : ℕ) (cs : List ℕ) → (length (c ∷ cs) == 0) ≡ false
some c cs = grind (arith, nat_tests)

pub no_lines : (bytes : List ℕ) → are_none (lines_of bytes) ≡ (length bytes == 0)
unfolding lines_of
no_lines [] = refl
no_lines (c ∷ cs) = elim (cases_Bool (c == 10)) [
  | inl feed ↦ rw (feed, some c cs) refl
  | inr other ↦ rw (other, some c cs) (in_line_some c (lines_of cs))
]

-- ---- the lines of a text are lines, and lines are those of their text

longer : (b : Bool) (c : ℕ) (text : List ℕ) (behind : List TextLine) → IsEnded b text behind →
    IsEnded b (c ∷ text) behind
longer true c text behind h = tt
longer false c text behind h = (omega arith, h.1)

in_line_are : (c : ℕ) (ls : List TextLine) → (c == 10) ≡ false → AreLines ls → AreLines (in_line c ls)
in_line_are c [] other h = (rw other refl, (omega arith, refl), tt)
in_line_are c (l ∷ ls) other h = (rw other h.0, longer l.ended c l.text ls h.1, h.2)

are_lines : (bytes : List ℕ) → AreLines (lines_of bytes)
unfolding lines_of
are_lines [] = tt
are_lines (c ∷ cs) = elim (cases_Bool (c == 10)) [
  | inl feed ↦ rw feed (refl, tt, are_lines cs)
  | inr other ↦ rw other (in_line_are c (lines_of cs) other (are_lines cs))
]

pub lines_law : LinesLaw
lines_law bytes = (are_lines bytes, lines_join bytes)

open_again : (c : ℕ) (cs : List ℕ) → no_feed (c ∷ cs) ≡ true →
    lines_of (c ∷ cs) ≡ record { text = c ∷ cs; ended = false } ∷ []
unfolding lines_of
open_again c [] h =
    let parts = and_parts (not (c == 10)) true h in
    let other : (c == 10) ≡ false = grind (arith, nat_tests) in
    rw other refl
open_again c (d ∷ ds) h =
    let parts = and_parts (not (c == 10)) (no_feed (d ∷ ds)) h in
    let other : (c == 10) ≡ false = grind (arith, nat_tests) in
    rw other (ap (in_line c) (open_again d ds parts.1))

again_cases : (text : List ℕ) (b : Bool) (ls : List TextLine) → no_feed text ≡ true → IsEnded b text ls →
    lines_of (joined ls) ≡ ls
    → lines_of (text ++ cond b (10 ∷ joined ls) (joined ls)) ≡ record { text = text; ended = b } ∷ ls
again_cases text true ls free h same = line_again text (joined ls) free
    ∙ ap (λ (t : List TextLine). record { text = text; ended = true } ∷ t) same
again_cases [] false ls free h same = absurd (omega (arith, h.0))
again_cases (c ∷ cs) false ls free h same = rw (h.1, append-nil cs) (open_again c cs free)

pub joined_law : JoinedLaw
unfolding lines_of
joined_law [] h = refl
joined_law (l ∷ ls) h = again_cases l.text l.ended ls h.0 h.1 (joined_law ls h.2)
