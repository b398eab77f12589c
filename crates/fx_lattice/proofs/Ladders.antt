-- Values that meet the rows of a lattice are the same.
use Rattle.std.proofs.Common.{◌≡◌, ◌⊎◌, inl, inr, ℕ, zero, suc, ◌+◌, ◌-◌, ◌*◌, ◌<◌, ◌≤◌, List, length, refl}
use Rattle.std.proofs.Common.{arith, sym, ap, ap₂, subst, ◌∙◌}
use Rattle.std.proofs.Math.IntN.{ℤ, pos, ◌+ℤ◌, ◌*ℤ◌}
use Rattle.std.proofs.lemmas.Bool.{cases_lt}
use Rattle.fx_math.specs.Unroll.{before}
use Rattle.fx_nums.specs.Fraction.{Fraction, minus, one_fraction}
use Rattle.fx_sif.specs.Entries.{coefficient}
use Rattle.fx_sif.proofs.OneScale.{cancelled}

-- what row r of those that go forward takes of this moment
abbrev pub above : (ℕ → ℕ → ℤ) → (ℕ → ℕ → ℤ) → ℕ → ℕ → ℤ
above z u k zero = u k 0
above z u k (suc r) = z k r

-- rows that go forward, from the input down, and then rows that come back; the first of these is the last of those
pub record IsLadder (w : Fraction → ℤ) (d last : ℕ) (ks : List Fraction) (u z : ℕ → ℕ → ℤ) : Type 0 where
  pub forward : (k r : ℕ) → k ≤ last → r < length ks →
      pos d *ℤ z k r ≡ w one_fraction *ℤ above z u k r +ℤ w (minus (coefficient ks (length ks - 1 - r))) *ℤ
      before z k (length ks - 1 + (length ks - 1 - r))
  pub backward : (k i : ℕ) → k ≤ last → i < length ks →
      pos d *ℤ z k (length ks + i)
      ≡ w (coefficient ks i) *ℤ z k (length ks - 1 - i) +ℤ w one_fraction *ℤ before z k (length ks - 1 + i)

module _ (w : Fraction → ℤ) (d last : ℕ) (ks : List Fraction) (u x y : ℕ → ℕ →
    ℤ) (positive : 0 < d) (of_x : IsLadder w d last ks u x) (of_y : IsLadder w d last ks u y) where
  abbrev n : ℕ
  n = length ks

  -- all rows of the moment before are the same
  abbrev SameBefore : ℕ → Type 0
  SameBefore k = (j : ℕ) → j < 2 * n → before x k j ≡ before y k j

  forward_same : (k r : ℕ) → k ≤ last → SameBefore k → r < n → x k r ≡ y k r
  forward_same k zero h old l =
      cancelled d (x k 0) (y k 0) positive
      (of_x.forward k 0 h l
      ∙ ap (λ v. w one_fraction *ℤ u k 0 +ℤ w (minus (coefficient ks (n - 1 - 0))) *ℤ v)
      (old (n - 1 + (n - 1 - 0)) (omega arith))
      ∙ sym (of_y.forward k 0 h l))
  forward_same k (suc r) h old l =
      cancelled d (x k (suc r)) (y k (suc r)) positive
      (of_x.forward k (suc r) h l
      ∙ ap₂ (λ a v. w one_fraction *ℤ a +ℤ w (minus (coefficient ks (n - 1 - suc r))) *ℤ v)
      (forward_same k r h old (omega arith)) (old (n - 1 + (n - 1 - suc r)) (omega arith))
      ∙ sym (of_y.forward k (suc r) h l))

  backward_same : (k i : ℕ) → k ≤ last → SameBefore k → i < n → x k (n + i) ≡ y k (n + i)
  backward_same k i h old l =
      cancelled d (x k (n + i)) (y k (n + i)) positive
      (of_x.backward k i h l
      ∙ ap₂ (λ a v. w (coefficient ks i) *ℤ a +ℤ w one_fraction *ℤ v)
      (forward_same k (n - 1 - i) h old (omega arith)) (old (n - 1 + i) (omega arith))
      ∙ sym (of_y.backward k i h l))

  moment_same : (k : ℕ) → k ≤ last → SameBefore k → (r : ℕ) → r < 2 * n → x k r ≡ y k r
  moment_same k h old r l = by_place (cases_lt r n)
    where
      by_place : (r < n) ⊎ (n ≤ r) → x k r ≡ y k r
      by_place (inl below) = forward_same k r h old below
      by_place (inr high) =
          let here : n + (r - n) ≡ r = omega (arith, high) in
          subst (λ r. x k r ≡ y k r) here (backward_same k (r - n) h old (omega (arith, high, l)))

  pub ladders_same : (k : ℕ) → k ≤ last → (r : ℕ) → r < 2 * n → x k r ≡ y k r
  ladders_same zero h = moment_same zero h (λ j l. refl)
  ladders_same (suc k) h = moment_same (suc k) h (λ j l. ladders_same k (omega arith) j l)
