-- The first moments of a list of samples.
use Rattle.std.proofs.Common.{◌≡◌, ◌∙◌, ℕ, zero, suc, ◌+◌, ◌-◌, ◌<◌, List, [], ◌∷◌, ◌++◌, length, refl, sym, ap}
use Rattle.std.proofs.Common.{subst, arith, slice_index}
use Rattle.std.proofs.Common.{length-append}
use Rattle.std.proofs.lemmas.List.{append-nil}
use Rattle.std.proofs.Common.{append_assoc}
use Rattle.std.proofs.Math.IntN.{ℤ}
use Rattle.fx_code.specs.Code.{Code}
use Rattle.fx_code.specs.Inputs.{word_at}
use Rattle.fx_code.specs.Laws.{EarlierInputs}
use Rattle.fx_code.specs.Run.{output_word, words}
use Rattle.fx_large.specs.Runs.{moments, word_on}

pub moment_count : (n : ℕ) (f : ℕ → ℤ) → length (moments n f) ≡ n
unfolding moments
moment_count zero f = refl
moment_count (suc n) f = omega (arith, length-append (moments n f) ((f n ∷ []) ∷ []), moment_count n f)

-- those behind the first k
rest_of : ℕ → ℕ → (ℕ → ℤ) → List (List ℤ)
rest_of k zero f = []
rest_of k (suc m) f = rest_of k m f ++ (f (k + m) ∷ []) ∷ []

split_at : (k m : ℕ) (f : ℕ → ℤ) → moments (k + m) f ≡ moments k f ++ rest_of k m f
unfolding moments rest_of
split_at k zero f = let e : k + 0 ≡ k = omega arith in rw e (sym (append-nil (moments k f)))
split_at k (suc m) f =
    let e : k + suc m ≡ suc (k + m) = omega arith in
    rw e (ap (λ xs. xs ++ (f (k + m) ∷ []) ∷ []) (split_at k m f)
    ∙ append_assoc (moments k f) (rest_of k m f) ((f (k + m) ∷ []) ∷ []))

-- the word of a moment by the moments up to it
pub word_so_far : EarlierInputs → (p : Code) (n k : ℕ) (f : ℕ → ℤ) → k < n →
    output_word p (word_at (moments k f ++ (f k ∷ []) ∷ [])) (length (moments k f)) 0 ≡ word_on p n f k
unfolding moments
word_so_far earlier p n k f within =
    let rest = n - suc k in
    let whole : suc k + rest ≡ n = omega (arith, within) in
    let all : moments n f ≡ moments (suc k) f ++ rest_of (suc k) rest f =
    subst (λ m. moments m f ≡ moments (suc k) f ++ rest_of (suc k) rest f) whole (split_at (suc k) rest f) in
    let count = moment_count k f in
    let here : k < length (moments (suc k) f) = omega (arith, moment_count (suc k) f) in
    let same : words p (word_at (moments n f)) k ≡ words p (word_at (moments (suc k) f)) k =
    rw all (earlier p (moments (suc k) f) (rest_of (suc k) rest f) k here) in
    let output : ℕ = slice_index p.outputs 0 in
    let word : output_word p (word_at (moments (suc k) f)) k 0 ≡ word_on p n f k =
    ap (λ (w : ℕ → ℤ). w output) (sym same) in
    subst (λ l. output_word p (word_at (moments (suc k) f)) l 0 ≡ word_on p n f k) (sym count) word
