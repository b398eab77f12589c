-- Sequences that meet the recursion of a transfer function at one scale.
use Rattle.std.proofs.Common.{◌≡◌, ℕ, ◌+◌, ◌≤◌, List, [], ◌∷◌, length, map, drop, refl, arith, sym, ap, ◌∙◌}
use Rattle.std.proofs.Math.IntN.{ℤ, pos, ◌+ℤ◌, ◌*ℤ◌}
use Rattle.fx_nums.specs.Fraction.{Fraction, minus}
use Rattle.fx_sif.specs.Entries.{coefficient}
use Rattle.fx_sif.proofs.Earlier.{weigh}
use Rattle.fx_sif.proofs.EarlierSums.{coefficient_next, coefficient_opposite}
use Rattle.fx_sif.proofs.Uniqueness.{weigh_before}

-- the denominator's coefficients behind the first, with the other sign
abbrev pub fed_back : List Fraction → List Fraction
fed_back a = map minus (drop 1 a)

pub fed_at : (a : List Fraction) (i : ℕ) → coefficient (fed_back a) i ≡ minus (coefficient a (i + 1))
fed_at a i = coefficient_opposite (drop 1 a) i ∙ ap minus (coefficient_next a i)

-- y is b over the inputs of this moment and of those before, and the feedback over its own earlier values
abbrev pub MeetsAt : (Fraction → ℤ) → ℕ → List Fraction → List Fraction → (ℕ → ℤ) → (ℕ → ℤ) → ℕ → Type 0
MeetsAt w d b a u y k = pos d *ℤ y k ≡ weigh w u k 0 b +ℤ weigh w y k 1 (fed_back a)

-- what is equal to a sequence that meets it meets it
pub meets_too : (w : Fraction → ℤ) (d : ℕ) (b a : List Fraction) (u t y : ℕ → ℤ) (k : ℕ) →
    ((j : ℕ) → j ≤ k → y j ≡ t j) → MeetsAt w d b a u t k → MeetsAt w d b a u y k
meets_too w d b a u t y k same h =
    ap (λ v. pos d *ℤ v) (same k (omega arith)) ∙ h
    ∙ ap (λ v. weigh w u k 0 b +ℤ v)
    (sym (weigh_before w y t k (fed_back a) 1 (omega arith) (λ j l. same j (omega arith))))

-- the first coefficient, and those behind it
pub first_lag : (w : Fraction → ℤ) (v : ℕ → ℤ) (k : ℕ) (b : List Fraction) → 1 ≤ length b →
    w (coefficient b 0) *ℤ v k +ℤ weigh w v k 1 (drop 1 b) ≡ weigh w v k 0 b
first_lag w v k [] h = absurd (omega arith)
first_lag w v k (c ∷ cs) h = refl
