-- Sequences that are 0 before moment 0, and sums over their moments.
use Rattle.std.proofs.Common.{◌≡◌, ℕ, zero, suc, ◌+◌, List, [], ◌∷◌, refl, arith}
use Rattle.std.proofs.Math.IntN.{ℤ, pos, ◌+ℤ◌, ◌*ℤ◌}
use Rattle.std.proofs.lemmas.Int.{ints}
use Rattle.fx_math.specs.Unroll.{lagged}
use Rattle.fx_nums.specs.Fraction.{Fraction}

-- f, l moments before moment k
abbrev pub ago : (ℕ → ℤ) → ℕ → ℕ → ℤ
ago f k zero = f k
ago f zero (suc l) = pos 0
ago f (suc k) (suc l) = ago f k l

-- one coefficient for each lag from this one on
abbrev pub weigh : (Fraction → ℤ) → (ℕ → ℤ) → ℕ → ℕ → List Fraction → ℤ
weigh w f k l [] = pos 0
weigh w f k l (c ∷ cs) = w c *ℤ ago f k l +ℤ weigh w f k (l + 1) cs

pub ago_scaled : (f : ℕ → ℕ → ℤ) (c : ℤ) (k l j : ℕ) → ago (λ k. f k j *ℤ c) k l ≡ lagged f k l j *ℤ c
ago_scaled f c k zero j = refl
ago_scaled f c zero (suc l) j = zero_times c
  where
    zero_times : (c : ℤ) → pos 0 ≡ pos 0 *ℤ c
    zero_times c = omega (arith, ints)
ago_scaled f c (suc k) (suc l) j = ago_scaled f c k l j
