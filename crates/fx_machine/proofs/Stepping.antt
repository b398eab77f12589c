-- A machine that stands after a list, one moment further.
use Rattle.fx_machine.specs.declared.places.TheConstants.{FIRST_INPUT, FIRST_OLD, WORD_COUNT}
use Rattle.fx_code.specs.declared.limits.TheConstants.{CODE_ROWS}
use Rattle.std.proofs.Common.{◌≡◌, ℕ, suc, ◌+◌, ◌<◌, ℤ, pos, List, [], ◌∷◌, ◌++◌, length, map, take, replicate}
use Rattle.std.proofs.Common.{All, slice_index_or, inl, inr, subst, sym, ap, ◌∙◌, refl, arith, length-append}
use Rattle.std.proofs.Math.Seq.{get_or-append_seam}
use Rattle.std.proofs.lemmas.Bool.{cases_lt}
use Rattle.std.proofs.lemmas.List.{get_or-take, get_or-replicate, get_or_past, length-replicate}
use Rattle.std.proofs.lemmas.List.Elements.{All-tail}
use Rattle.fx_math.specs.Unroll.{last}
use Rattle.fx_code.specs.Code.{Code}
use Rattle.fx_code.specs.Fits.{CodeFits}
use Rattle.fx_code.specs.Inputs.{word_at, IsMoment}
use Rattle.fx_machine.specs.Moments.{State, StandsAfter}
use Rattle.fx_machine.specs.Prepared.{word_in}
use Rattle.fx_code.specs.Run.{word_step, words, outputs_at}
use Rattle.fx_machine.specs.Standing.{rows_done, WordsFit, Begins}
use Rattle.fx_machine.proofs.Bits.{zero_fits}
use Rattle.fx_machine.proofs.Following.{Starts, last_past, words_are}
use Rattle.fx_code.proofs.LaterInputs.{same_before}

-- the input of the moment that is added
added : (list : List (List ℤ)) (moment : List ℤ) (j : ℕ) →
    word_at (list ++ moment ∷ []) (length list) j ≡ word_in moment j
added list moment j = ap (λ (m : List ℤ). slice_index_or m j (pos 0)) (get_or-append_seam list moment [] [])

-- a moment begins as that of the run
pub starts : (p : Code) (list : List (List ℤ)) (moment kept begun : List ℤ) → CodeFits p →
    StandsAfter (record { program = p; words = take (length p.rows) kept }) p list → WordsFit p kept →
    Begins kept begun (length p.rows) moment → IsMoment p moment →
    Starts p (word_at (list ++ moment ∷ [])) (length list) begun
starts p list moment kept begun f stands w b input =
    record {
      count = b.count;
      old = old;
      taken = λ j h. b.input j (omega (arith, h, input.count)) ∙ sym (added list moment j);
    }
  where
    old : (j : ℕ) → j < CODE_ROWS → word_in begun (FIRST_OLD + j)
        ≡ last (length p.rows) (word_step p (word_at (list ++ moment ∷ []))) (length list) j
    old j h =
        elim (cases_lt j (length p.rows)) [
          | inl here ↦ b.old j here ∙ sym (get_or-take (length p.rows) kept j (pos 0) here)
              ∙ stands.words j here ∙ ap (λ (row : ℕ → ℤ).
              row j) (sym (same_before p list (moment ∷ []) (length list) (omega arith)))
          | inr past ↦ b.missing j past h ∙ w.missing j past h
              ∙ sym (last_past (length p.rows) (word_step p (word_at (list ++ moment ∷ []))) (length list) j past)
        ]

-- the machine stands after the moment
pub stands_further : (p : Code) (list : List (List ℤ)) (moment begun done : List ℤ) → CodeFits p →
    Starts p (word_at (list ++ moment ∷ [])) (length list) begun → done ≡ rows_done p begun (length p.rows) →
    StandsAfter (record { program = p; words = take (length p.rows) done }) p (list ++ moment ∷ [])
stands_further p list moment begun done f s e =
    record {
      program = refl;
      words = λ i h. get_or-take (length p.rows) done i (pos 0) h ∙ ap (λ (ws : List ℤ). word_in ws i) e
          ∙ words_are p (word_at (list ++ moment ∷ [])) (length list) begun f s i h
          ∙ ap (λ m. last (length p.rows) (word_step p (word_at (list ++ moment ∷ []))) m i) further;
    }
  where
    further : suc (length list) ≡ length (list ++ moment ∷ [])
    further = omega (arith, length-append list (moment ∷ []))

same_map : (f g : ℕ → ℤ) (n : ℕ) (xs : List ℕ) → ((j : ℕ) → j < n → f j ≡ g j) → All (λ x. x < n) xs →
    map f xs ≡ map g xs
same_map f g n [] h below = refl
same_map f g n (x ∷ xs) h below =
    let here : f x ≡ g x = h x (below 0 x (omega arith)) in
    rw (here, same_map f g n xs h (All-tail (λ y. y < n) x xs below)) refl

-- what is put out are the words of the outputs
pub outputs_are : (p : Code) (u : ℕ → ℕ → ℤ) (k : ℕ) (begun done : List ℤ) → CodeFits p → Starts p u k begun →
    done ≡ rows_done p begun (length p.rows) → map (word_in done) p.outputs ≡ outputs_at p u k
outputs_are p u k begun done f s e =
    ap (λ (ws : List ℤ). map (word_in ws) p.outputs) e
    ∙ same_map (word_in (rows_done p begun (length p.rows))) (words p u k) (length p.rows) p.outputs
    (words_are p u k begun f s) f.outputs

-- what stands of a machine stands of its fields
pub of_fields : (m fields : State) (p : Code) (list : List (List ℤ)) → fields ≡ m → StandsAfter m p list →
    (fields.program ≡ p) × StandsAfter fields fields.program list
of_fields m fields p list same stands =
    let here : StandsAfter fields p list = subst (λ (x : State). StandsAfter x p list) (sym same) stands in
    (here.program, subst (λ (x : Code). StandsAfter fields x list) (sym here.program) here)

-- ---- the start

zero_in : (n i : ℕ) → word_in (replicate n (pos 0)) i ≡ pos 0
zero_in n i =
    elim (cases_lt i n) [
      | inl here ↦ get_or-replicate n i (pos 0) (pos 0) here
      | inr past ↦ get_or_past (replicate n (pos 0)) i (pos 0) (omega (arith, length-replicate n (pos 0), past))
    ]

-- words that are 0 lie within all bits
pub zeros_fit : (p : Code) (kept : List ℤ) → kept ≡ replicate WORD_COUNT (pos 0) → WordsFit p kept
zeros_fit p kept e =
    let zero : (i : ℕ) → word_in kept i ≡ pos 0 = λ i. ap (λ (ws : List ℤ). word_in ws i) e ∙ zero_in WORD_COUNT i in
    record {
      count = ap length e ∙ length-replicate WORD_COUNT (pos 0);
      now = λ i h. rw (zero i) (zero_fits _);
      old = λ i h. rw (zero (FIRST_OLD + i)) (zero_fits _);
      missing = λ i h l. zero (FIRST_OLD + i);
      input = λ j h. rw (zero (FIRST_INPUT + j)) (zero_fits _);
    }

pub stands_at_first : (p : Code) (kept : List ℤ) → kept ≡ replicate WORD_COUNT (pos 0) →
    StandsAfter (record { program = p; words = take (length p.rows) kept }) p []
stands_at_first p kept e =
    record {
      program = refl;
      words = λ i h. get_or-take (length p.rows) kept i (pos 0) h ∙ ap (λ (ws : List ℤ). word_in ws i) e
          ∙ zero_in WORD_COUNT i;
    }
