-- Lists of one entry for each of the first places, for functions that name these lemmas.
use Rattle.std.proofs.Common.{◌≡◌, ℕ, ◌+◌, [], ◌∷◌, ◌++◌, length}
use Rattle.fx_math.specs.Sums.{joined}
use Rattle.fx_block.proofs.Places as places

pub listed_count : {A : Type 0} (n : ℕ) (f : ℕ → A) → length (joined n (λ i. f i ∷ [])) ≡ n
listed_count n f = places.listed_length n f

pub listed_next : {A : Type 0} (n : ℕ) (f : ℕ → A) →
    joined (n + 1) (λ i. f i ∷ []) ≡ joined n (λ i. f i ∷ []) ++ f n ∷ []
listed_next n f = places.listed_next n f
