-- What one moment more adds.
use Rattle.std.proofs.Common.{◌≡◌, ℕ, zero, suc, ◌+◌, [], ◌∷◌, ◌++◌, length, refl, arith}
use Rattle.std.proofs.lemmas.List.{length-append}
use Rattle.fx_code.specs.Code.{Code}
use Rattle.fx_bench.specs.Checksum.{mixed}
use Rattle.fx_bench.specs.Runs.{drawn, low_bits, moments, next_seed, put_word, seed_before, words_sum}

one_more : (n : ℕ) → n + 1 ≡ suc n
one_more n = omega arith

pub seed_after : (n : ℕ) → seed_before (n + 1) ≡ next_seed (seed_before n)
unfolding seed_before
seed_after n = rw (one_more n) refl

pub moments_after : (n : ℕ) → moments (n + 1) ≡ moments n ++ (drawn (seed_before (n + 1)) ∷ []) ∷ []
unfolding moments
moments_after n = rw (one_more n) refl

pub moments_count : (n : ℕ) → length (moments n) ≡ n
unfolding moments
moments_count zero = refl
moments_count (suc n) = let e = moments_count n in let l =
    length-append (moments n) ((drawn (seed_before (suc n)) ∷ []) ∷ []) in omega arith

pub sum_after : (p : Code) (n : ℕ) → words_sum p (n + 1)
    ≡ mixed (words_sum p n) (low_bits (put_word p (moments (n + 1)) n))
unfolding words_sum
sum_after p n = rw (one_more n) refl
