-- What the terms of a lattice's equations come to in each row.
use Rattle.std.proofs.Common.{◌≡◌, ◌⊎◌, inl, inr, ℕ, zero, suc, ◌+◌, ◌-◌, ◌<◌, ◌≤◌, List, [], ◌∷◌, length, refl}
use Rattle.std.proofs.Common.{arith, ap, subst, ◌∙◌}
use Rattle.std.proofs.Math.IntN.{ℤ, pos, ◌+ℤ◌, ◌*ℤ◌}
use Rattle.std.proofs.lemmas.Int.{ints}
use Rattle.fx_nums.specs.Fraction.{Fraction, minus, one_fraction}
use Rattle.fx_eqs.specs.Textbook.{backward, backward_rows, forward, forward_rows, summand}
use Rattle.fx_eqs.specs.declared.term.Source.{Source}
use Rattle.fx_eqs.specs.declared.term.Term.{Term}
use Rattle.fx_sif.specs.Entries.{coefficient}
use Rattle.fx_sif.proofs.Earlier.{ago}
use Rattle.fx_sif.proofs.LagSums.{lag_sum, lag_sum-back, lag_sum-first, lag_sum-front, lag_sum-other, sequence}

nothing_more : (a b : ℤ) → a +ℤ (b +ℤ pos 0) ≡ a +ℤ b
nothing_more a b = omega (arith, ints)

module _ (w : Fraction → ℤ) (y u : ℕ → ℕ → ℤ) (k : ℕ) where
  -- a row of two terms, one that reads this moment and one that reads the moment before
  abbrev pub pair : ℕ → Fraction → Source → Fraction → Source → List Term
  pair row c now d old = summand row c now 0 ∷ summand row d old 1 ∷ []

  abbrev pub pair_sum : Fraction → Source → Fraction → Source → ℤ
  pair_sum c now d old = w c *ℤ ago (sequence y u now) k 0 +ℤ w d *ℤ ago (sequence y u old) k 1

  pair_here : (row : ℕ) (c d : Fraction) (now old : Source) →
      lag_sum w y u k row (pair row c now d old) ≡ pair_sum c now d old
  pair_here row c d now old =
      lag_sum-first w y u k row c now 0 (summand row d old 1 ∷ [])
      ∙ ap (λ z. w c *ℤ ago (sequence y u now) k 0 +ℤ z) (lag_sum-first w y u k row d old 1 [])
      ∙ nothing_more (w c *ℤ ago (sequence y u now) k 0) (w d *ℤ ago (sequence y u old) k 1)

  pair_other : (row i : ℕ) (c d : Fraction) (now old : Source) → (row ≡ i → ⊥) →
      lag_sum w y u k i (pair row c now d old) ≡ pos 0
  pair_other row i c d now old other =
      lag_sum-other w y u k i row c now 0 (summand row d old 1 ∷ []) other
      ∙ lag_sum-other w y u k i row d old 1 [] other

  -- ---- what goes forward

  abbrev pub forward_sum : ℕ → ℕ → Fraction → ℤ
  forward_sum n i c = pair_sum one_fraction (forward n (i + 1)) (minus c) (backward n i)

  pub forward_none : (n i row : ℕ) (cs : List Fraction) → i + length cs ≤ n → n - i ≤ row →
      lag_sum w y u k row (forward_rows n i cs) ≡ pos 0
  forward_none n i row [] room high = refl
  forward_none n i row (c ∷ cs) room high =
      lag_sum-front w y u k row (forward_rows n (i + 1) cs)
      (pair (n - 1 - i) one_fraction (forward n (i + 1)) (minus c) (backward n i))
      (pair_other (n - 1 - i) row one_fraction (minus c) (forward n (i + 1)) (backward n i) (λ same.
      omega (arith, room, high, same)))
      ∙ forward_none n (i + 1) row cs (omega arith) (omega arith)

  pub forward_here : (n i m : ℕ) (cs : List Fraction) → i + length cs ≡ n → m < length cs →
      lag_sum w y u k (n - 1 - (i + m)) (forward_rows n i cs) ≡ forward_sum n (i + m) (coefficient cs m)
  forward_here n i m [] all h = absurd (omega arith)
  forward_here n i zero (c ∷ cs) all h =
      let here : i ≡ i + 0 = omega arith in
      let row = n - 1 - i in
      let these = pair row one_fraction (forward n (i + 1)) (minus c) (backward n i) in
      subst (λ j. lag_sum w y u k (n - 1 - j) (forward_rows n i (c ∷ cs)) ≡ forward_sum n j c) here
      (lag_sum-back w y u k row (forward_rows n (i + 1) cs) these
      (forward_none n (i + 1) row cs (omega arith) (omega arith))
      ∙ pair_here row one_fraction (minus c) (forward n (i + 1)) (backward n i))
  forward_here n i (suc m) (c ∷ cs) all h =
      let there : i + 1 + m ≡ i + suc m = omega arith in
      let row = n - 1 - (i + 1 + m) in
      let these = pair (n - 1 - i) one_fraction (forward n (i + 1)) (minus c) (backward n i) in
      subst (λ j. lag_sum w y u k (n - 1 - j) (forward_rows n i (c ∷ cs)) ≡ forward_sum n j (coefficient cs m)) there
      (lag_sum-front w y u k row (forward_rows n (i + 1) cs) these
      (pair_other (n - 1 - i) row one_fraction (minus c) (forward n (i + 1)) (backward n i) (λ same.
      omega (arith, all, h, same)))
      ∙ forward_here n (i + 1) m cs (omega arith) (omega arith))

  -- ---- what comes back

  abbrev pub backward_sum : ℕ → ℕ → Fraction → ℤ
  backward_sum n i c = pair_sum c (forward n i) one_fraction (backward n i)

  pub backward_none : (n i row : ℕ) (cs : List Fraction) → (row < n + i) ⊎ (n + i + length cs ≤ row) →
      lag_sum w y u k row (backward_rows n i cs) ≡ pos 0
  backward_none n i row [] apart = refl
  backward_none n i row (c ∷ cs) apart =
      lag_sum-back w y u k row (pair (n + i) c (forward n i) one_fraction (backward n i)) (backward_rows n (i + 1) cs)
      (pair_other (n + i) row c one_fraction (forward n i) (backward n i) (λ same.
      elim apart [ inl below ↦ omega (arith, below, same) | inr above ↦ omega (arith, above, same) ]))
      ∙ backward_none n (i + 1) row cs
      (elim apart [ inl below ↦ inl (omega (arith, below)) | inr above ↦ inr (omega (arith, above)) ])

  pub backward_here : (n i m : ℕ) (cs : List Fraction) → m < length cs →
      lag_sum w y u k (n + (i + m)) (backward_rows n i cs) ≡ backward_sum n (i + m) (coefficient cs m)
  backward_here n i m [] h = absurd (omega arith)
  backward_here n i zero (c ∷ cs) h =
      let here : i ≡ i + 0 = omega arith in
      subst (λ j. lag_sum w y u k (n + j) (backward_rows n i (c ∷ cs)) ≡ backward_sum n j c) here
      (lag_sum-front w y u k (n + i) (pair (n + i) c (forward n i) one_fraction (backward n i))
      (backward_rows n (i + 1) cs)
      (backward_none n (i + 1) (n + i) cs (inl (omega arith)))
      ∙ pair_here (n + i) c one_fraction (forward n i) (backward n i))
  backward_here n i (suc m) (c ∷ cs) h =
      let there : i + 1 + m ≡ i + suc m = omega arith in
      subst (λ j. lag_sum w y u k (n + j) (backward_rows n i (c ∷ cs)) ≡ backward_sum n j (coefficient cs m)) there
      (lag_sum-back w y u k (n + (i + 1 + m)) (pair (n + i) c (forward n i) one_fraction (backward n i))
      (backward_rows n (i + 1) cs)
      (pair_other (n + i) (n + (i + 1 + m)) c one_fraction (forward n i) (backward n i) (λ same. omega (arith, same)))
      ∙ backward_here n (i + 1) m cs (omega arith))
