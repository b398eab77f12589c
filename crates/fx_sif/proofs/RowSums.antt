-- What the entries of a form add to one of its rows, part by part.
use Rattle.std.proofs.Common.{◌≡◌, ℕ, ◌+◌, ◌<◌, Bool, true, false, cond, List, [], ◌∷◌, ◌++◌, map, filter, refl}
use Rattle.std.proofs.Common.{arith, sym, ap, ap₂, ◌∙◌}
use Rattle.std.proofs.Math.IntN.{ℤ, pos, ◌+ℤ◌, ◌*ℤ◌}
use Rattle.std.proofs.lemmas.Int.{ints}
use Rattle.fx_math.specs.Sums.{joined}
use Rattle.fx_nums.specs.Fraction.{Fraction}
use Rattle.fx_eqs.specs.Expanded.{NetTerm}
use Rattle.fx_sif.specs.Entries.{across}
use Rattle.fx_sif.specs.Rows.{net_read, on_the_right, term_of, is_in_row}
use Rattle.fx_sif.specs.declared.parts.Block.{Block}
use Rattle.fx_sif.specs.declared.parts.Entry.{Entry}
use Rattle.fx_sif.specs.declared.parts.Sizes.{Sizes}
use Rattle.fx_sif.proofs.LagSums.{column_sum}
use Rattle.fx_sif.proofs.OneScale.{read_of, reads_sum}
use Rattle.fx_sif.proofs.EntriesOfRow.{InRow, here, elsewhere, rows_elsewhere, rows_here}

nothing_first : (a : ℤ) → a ≡ pos 0 +ℤ a
nothing_first a = omega (arith, ints)

grouped : (a b c : ℤ) → a +ℤ (b +ℤ c) ≡ (a +ℤ b) +ℤ c
grouped a b c = omega (arith, ints)

only_here : (a b : ℤ) → b ≡ pos 0 → a +ℤ b ≡ a
only_here a b e = rw e (omega (arith, ints))

only_there : (a b : ℤ) → a ≡ pos 0 → a +ℤ b ≡ b
only_there a b e = rw e (omega (arith, ints))

module _ (s : Sizes) (w : Fraction → ℤ) (x u : ℕ → ℕ → ℤ) (k : ℕ) where
  -- what entries add that all stand in one row
  abbrev pub all_add : List Entry → ℤ
  all_add es = reads_sum w x u k (map (term_of s) es)

  -- what these entries add to row r
  abbrev pub adds : ℕ → List Entry → ℤ
  adds r es = all_add (filter (is_in_row s r) es)

  pub adds_both : (r : ℕ) (es gs : List Entry) → adds r (es ++ gs) ≡ adds r es +ℤ adds r gs
  adds_both r [] gs = nothing_first (adds r gs)
  adds_both r (e ∷ es) gs = by_test (is_in_row s r e) (adds_both r es gs)
    where
      by_test : (b : Bool) → adds r (es ++ gs) ≡ adds r es +ℤ adds r gs →
          all_add (cond b (e ∷ filter (is_in_row s r) (es ++ gs)) (filter (is_in_row s r) (es ++ gs)))
          ≡ all_add (cond b (e ∷ filter (is_in_row s r) es) (filter (is_in_row s r) es)) +ℤ adds r gs
      by_test true rest =
          let t : NetTerm = term_of s e in
          ap (λ y. w t.coef *ℤ read_of x u k t.from +ℤ y) rest
          ∙ grouped (w t.coef *ℤ read_of x u k t.from) (adds r es) (adds r gs)
      by_test false rest = rest

  -- two parts, of which one stands elsewhere
  pub adds_first : (r : ℕ) (es gs : List Entry) → adds r gs ≡ pos 0 → adds r (es ++ gs) ≡ adds r es
  adds_first r es gs none = adds_both r es gs ∙ only_here (adds r es) (adds r gs) none

  pub adds_second : (r : ℕ) (es gs : List Entry) → adds r es ≡ pos 0 → adds r (es ++ gs) ≡ adds r gs
  adds_second r es gs none = adds_both r es gs ∙ only_there (adds r es) (adds r gs) none

  pub adds_here : (r : ℕ) (es : List Entry) → InRow s r es → adds r es ≡ all_add es
  adds_here r es h = ap all_add (here s r es h)

  pub adds_none : (p r : ℕ) (es : List Entry) → (p ≡ r → ⊥) → InRow s p es → adds r es ≡ pos 0
  adds_none p r es other h = ap all_add (elsewhere s p r es other h)

  pub adds_its_row : (at n : ℕ) (f : ℕ → List Entry) → ((i : ℕ) → i < n → InRow s (at + i) (f i)) → (j r : ℕ) → j < n →
      at + j ≡ r → adds r (joined n f) ≡ all_add (f j)
  adds_its_row at n f each j r h same = ap (λ p. adds p (joined n f)) (sym same)
      ∙ ap all_add (rows_here s at n f each j h)

  pub adds_no_row : (at n r : ℕ) (f : ℕ → List Entry) → ((i : ℕ) → i < n → InRow s (at + i) (f i)) →
      ((i : ℕ) → i < n → at + i ≡ r → ⊥) → adds r (joined n f) ≡ pos 0
  adds_no_row at n r f each other = ap all_add (rows_elsewhere s at r n f each other)

  -- coefficients across a row of a block that is read with its sign
  pub all_across : (b : Block) (i j : ℕ) (cs : List Fraction) → ((c : Fraction) → on_the_right b c ≡ c) →
      all_add (across b i j cs) ≡ column_sum w (λ j. read_of x u k (net_read s b j)) j cs
  all_across b i j [] plus = refl
  all_across b i j (c ∷ cs) plus =
      ap₂ (λ a z. w a *ℤ read_of x u k (net_read s b j) +ℤ z) (plus c) (all_across b i (j + 1) cs plus)
