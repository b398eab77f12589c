-- Lines that were put stay as they are.
use Rattle.std.proofs.Common.{◌≡◌, ℕ, zero, suc, ◌≤◌, ◌++◌, ◌∷◌, [], List, length, map, arith, refl, ap₂, length-append}
use Rattle.std.proofs.Math.IntN.{ℤ}
use Rattle.fx_code.specs.Code.{Code}
use Rattle.fx_code.specs.Inputs.{word_at}
use Rattle.fx_code.specs.Laws.{EarlierInputs}
use Rattle.fx_code.specs.Run.{outputs_at, words}
use Rattle.fx_sim.specs.Output.{line_of, lines_before, run_text}

-- the lines of the moments of a list are the same, whatever comes behind it
same_lines : EarlierInputs → (p : Code) (list rest : List (List ℤ)) (k : ℕ) → k ≤ length list
    → lines_before p (word_at (list ++ rest)) k ≡ lines_before p (word_at list) k
unfolding lines_before
same_lines earlier p list rest zero within = refl
same_lines earlier p list rest (suc k) within =
    let before : lines_before p (word_at (list ++ rest)) k ≡ lines_before p (word_at list) k =
    same_lines earlier p list rest k (omega arith) in
    let here : words p (word_at (list ++ rest)) k ≡ words p (word_at list) k = earlier p list rest k (omega arith) in
    ap₂ (λ lines (w : ℕ → ℤ). lines ++ line_of (map w p.outputs)) before here

-- the text of a run goes on by one line
pub text_goes_on : EarlierInputs → (p : Code) (list : List (List ℤ)) (moment : List ℤ)
    → run_text p (list ++ moment ∷ [])
    ≡ run_text p list ++ line_of (outputs_at p (word_at (list ++ moment ∷ [])) (length list))
unfolding lines_before
text_goes_on earlier p list moment =
    let count : length (list ++ moment ∷ []) ≡ suc (length list) = omega (arith, length-append list (moment ∷ [])) in
    let lines = same_lines earlier p list (moment ∷ []) (length list) (omega arith) in
    rw (count, lines) refl
