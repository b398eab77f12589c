-- Sequences that meet one recursion are equal.
use Rattle.std.proofs.Common.{◌≡◌, ℕ, zero, suc, ◌+◌, ◌<◌, ◌≤◌, List, [], ◌∷◌, refl, arith, sym, ap, ap₂, ◌∙◌}
use Rattle.std.proofs.Math.IntN.{ℤ, pos, ◌+ℤ◌, ◌*ℤ◌}
use Rattle.fx_nums.specs.Fraction.{Fraction}
use Rattle.fx_sif.proofs.Earlier.{ago, weigh}
use Rattle.fx_sif.proofs.OneScale.{cancelled}

pub ago_same : (x y : ℕ → ℤ) (k l : ℕ) → ((j : ℕ) → j ≤ k → x j ≡ y j) → ago x k l ≡ ago y k l
ago_same x y k zero h = h k (omega arith)
ago_same x y zero (suc l) h = refl
ago_same x y (suc k) (suc l) h = ago_same x y k l (λ j b. h j (omega arith))

ago_before : (x y : ℕ → ℤ) (k l : ℕ) → 1 ≤ l → ((j : ℕ) → j < k → x j ≡ y j) → ago x k l ≡ ago y k l
ago_before x y k zero some h = absurd (omega arith)
ago_before x y zero (suc l) some h = refl
ago_before x y (suc k) (suc l) some h = ago_same x y k l (λ j b. h j (omega arith))

pub weigh_before : (w : Fraction → ℤ) (x y : ℕ → ℤ) (k : ℕ) (cs : List Fraction) (l : ℕ) → 1 ≤ l →
    ((j : ℕ) → j < k → x j ≡ y j) → weigh w x k l cs ≡ weigh w y k l cs
weigh_before w x y k [] l some h = refl
weigh_before w x y k (c ∷ cs) l some h =
    ap₂ (λ a b. w c *ℤ a +ℤ b) (ago_before x y k l some h) (weigh_before w x y k cs (l + 1) (omega arith) h)

module _ (w : Fraction → ℤ) (d last : ℕ) (base x y : ℕ → ℤ) (cs : List Fraction) (positive : 0 < d)
    (of_x : (k : ℕ) → k ≤ last → pos d *ℤ x k ≡ base k +ℤ weigh w x k 1 cs)
    (of_y : (k : ℕ) → k ≤ last → pos d *ℤ y k ≡ base k +ℤ weigh w y k 1 cs) where
  below : (n j : ℕ) → j < n → j ≤ last → x j ≡ y j
  below zero j b h = absurd (omega arith)
  below (suc n) j b h =
      cancelled d (x j) (y j) positive
      (of_x j h ∙ ap (λ v. base j +ℤ v)
      (weigh_before w x y j cs 1 (omega arith) (λ i c. below n i (omega arith) (omega arith))) ∙ sym (of_y j h))

  pub same_sequence : (k : ℕ) → k ≤ last → x k ≡ y k
  same_sequence k h = below (suc k) k (omega arith) h
