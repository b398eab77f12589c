-- The words of a moment read inputs up to it alone.
use Rattle.std.proofs.Common.{◌≡◌, ℕ, zero, suc, ◌^◌, ◌<◌, ◌≤◌, List, [], ◌++◌, length, slice_index_or, pos}
use Rattle.std.proofs.Common.{refl, ap, ◌∙◌, arith}
use Rattle.std.proofs.Math.IntN.{ℤ}
use Rattle.std.proofs.lemmas.List.{get_or_append_left}
use Rattle.fx_math.specs.Division.{floor_div}
use Rattle.fx_math.specs.Residue.{wrap}
use Rattle.fx_math.specs.Unroll.{Step, fill, last}
use Rattle.fx_math.proofs.Unroll.{same_fill}
use Rattle.fx_code.specs.Code.{Code, row_at}
use Rattle.fx_code.specs.Inputs.{word_at}
use Rattle.fx_code.specs.Laws.{EarlierInputs}
use Rattle.fx_code.specs.Run.{whole_sum, word_step}

-- steps that agree at each moment before one, agree at that one
pub same_last : (n : ℕ) (s t : Step) (m : ℕ) →
    ((k : ℕ) → k < m → (i : ℕ) (now old : ℕ → ℤ) → s k i now old ≡ t k i now old) → last n s m ≡ last n t m
same_last n s t zero h = refl
same_last n s t (suc k) h =
    let before : last n s k ≡ last n t k = same_last n s t k (λ j l. h j (omega arith)) in
    same_fill (λ i now. s k i now (last n s k)) (λ i now. t k i now (last n t k)) n (λ i l.
    h k (omega arith) i _ (last n s k) ∙ ap (t k i (fill (λ i now. t k i now (last n t k)) i)) before)

pub same_step : (p : Code) (u v : ℕ → ℕ → ℤ) (k : ℕ) → u k ≡ v k → (i : ℕ) (now old : ℕ → ℤ) →
    word_step p u k i now old ≡ word_step p v k i now old
same_step p u v k e i now old =
    ap (λ (input : ℕ → ℤ). wrap (row_at p i).width
    (floor_div (wrap p.accumulator (whole_sum (row_at p i) now old input)) (2 ^ (row_at p i).own.shift))) e

pub same_moment : (list rest : List (List ℤ)) (k : ℕ) → k < length list → word_at (list ++ rest) k ≡ word_at list k
same_moment list rest k h =
    let read : List ℤ → ℕ → ℤ = λ moment j. slice_index_or moment j (pos 0) in
    ap read (get_or_append_left list rest [] k h)

-- the words before a moment read the inputs before it alone
pub same_before : (p : Code) (list rest : List (List ℤ)) (m : ℕ) → m ≤ length list →
    last (length p.rows) (word_step p (word_at (list ++ rest))) m
    ≡ last (length p.rows) (word_step p (word_at list)) m
same_before p list rest m h =
    same_last (length p.rows) (word_step p (word_at (list ++ rest))) (word_step p (word_at list)) m (λ k l.
    same_step p (word_at (list ++ rest)) (word_at list) k (same_moment list rest k (omega (arith, h, l))))

pub earlier_inputs : EarlierInputs
earlier_inputs p list rest k h = same_before p list rest (suc k) h
