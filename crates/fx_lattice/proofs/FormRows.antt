-- What the rows of a lattice structure come to.
use Rattle.std.proofs.Common.{◌≡◌, ◌⊎◌, inl, inr, ℕ, zero, suc, ◌+◌, ◌-◌, ◌*◌, ◌<◌, ◌≤◌, nat_lt, true, List}
use Rattle.std.proofs.Common.{◌++◌, length, refl, arith, ap, ap₂, ◌∙◌}
use Rattle.std.proofs.Math.IntN.{ℤ, pos, ◌+ℤ◌, ◌*ℤ◌, neg_ℤ}
use Rattle.std.proofs.lemmas.Bool.{lt-ltb}
use Rattle.std.proofs.lemmas.Int.{ints}
use Rattle.fx_math.specs.Sums.{joined}
use Rattle.fx_math.specs.Unroll.{before}
use Rattle.fx_nums.specs.Fraction.{Fraction, minus, one_fraction}
use Rattle.fx_sif.specs.Entries.{coefficient}
use Rattle.fx_sif.specs.declared.parts.Block.TheVariants.{L, S}
use Rattle.fx_sif.specs.declared.parts.Entry.{Entry}
use Rattle.fx_sif.specs.declared.parts.Sizes.{Sizes}
use Rattle.fx_sif.proofs.Delays.{alone}
use Rattle.fx_sif.proofs.EntriesOfRow.{InRow, across_in}
use Rattle.fx_sif.proofs.OneScale.{RowsMeet, cancelled, weight}
use Rattle.fx_sif.proofs.RowSums.{adds, adds_first, adds_here, adds_its_row, adds_no_row, adds_none}
use Rattle.fx_sif.proofs.RowSums.{adds_second, all_add}
use Rattle.fx_lattice.specs.Structure.{backward_row, forward_row, ladder_form, output_row, state_row}
use Rattle.fx_lattice.proofs.Ladders.{IsLadder, above}
use Rattle.fx_lattice.proofs.NeverRefused.{sizes_of}

pub minus_twice : (c : Fraction) → minus (minus c) ≡ c
minus_twice c = let same : neg_ℤ (neg_ℤ c.num) ≡ c.num =
    omega (arith, ints) in ap (λ z. record { num = z; den = c.den }) same

-- ---- where the entries stand

in_forward : (k : List Fraction) (r : ℕ) → InRow (sizes_of (length k)) (0 + r) (forward_row k r)
in_forward k zero = (refl, omega arith, (refl, omega arith, tt))
in_forward k (suc r) = (lt-ltb r (suc r) (omega arith), omega arith, (refl, omega arith, tt))

pub reads_before : (n i : ℕ) → i < n → nat_lt (n - 1 - i) (n + i) ≡ true
reads_before n i h = lt-ltb (n - 1 - i) (n + i) (omega arith)

in_backward : (k : List Fraction) (i : ℕ) → i < length k → InRow (sizes_of (length k)) (length k + i) (backward_row k i)
in_backward k i h = (reads_before (length k) i h, refl, (refl, refl, tt))

in_state : (n i : ℕ) → InRow (sizes_of n) (2 * n + i) (state_row n i)
in_state n i = (refl, refl, tt)

in_output : (n : ℕ) (v : List Fraction) → InRow (sizes_of n) (2 * n + n + 0) (output_row n v)
in_output zero v = across_in (sizes_of 0) (2 * 0 + 0 + 0) S 0 v 0 (λ j. refl) refl
in_output (suc m) v = across_in (sizes_of (suc m)) (2 * suc m + suc m + 0) L 0 v m (λ j. refl) refl

-- ---- the rows

nothing_more : (a b : ℤ) → a +ℤ (b +ℤ pos 0) ≡ a +ℤ b
nothing_more a b = omega (arith, ints)

module _ (k v : List Fraction) (q g last : ℕ) (x u : ℕ → ℕ →
    ℤ) (positive : 0 < q * g) (meet : RowsMeet (ladder_form k v) q g last x u) where
  abbrev n : ℕ
  n = length k

  abbrev s : Sizes
  s = sizes_of (length k)

  abbrev w : Fraction → ℤ
  w = weight q g

  abbrev forwards : List Entry
  forwards = joined (length k) (forward_row k)

  abbrev backwards : List Entry
  backwards = joined (length k) (backward_row k)

  abbrev states : List Entry
  states = joined (length k) (state_row (length k))

  abbrev output : List Entry
  output = output_row (length k) v

  no_forwards : (m r : ℕ) → n ≤ r → adds s w x u m r forwards ≡ pos 0
  no_forwards m r h = adds_no_row s w x u m 0 n r (forward_row k) (λ i l. in_forward k i) (λ i l same.
      omega (arith, h, l, same))

  no_backwards : (m r : ℕ) → (r < n) ⊎ (2 * n ≤ r) → adds s w x u m r backwards ≡ pos 0
  no_backwards m r apart =
      adds_no_row s w x u m n n r (backward_row k) (λ i l. in_backward k i l) (λ i l same.
      elim apart [ inl h ↦ omega (arith, h, l, same) | inr h ↦ omega (arith, h, l, same) ])

  no_states : (m r : ℕ) → (r < 2 * n) ⊎ (2 * n + n ≤ r) → adds s w x u m r states ≡ pos 0
  no_states m r apart = adds_no_row s w x u m (2 * n) n r (state_row n) (λ i l. in_state n i) (λ i l same.
      elim apart [ inl h ↦ omega (arith, h, l, same) | inr h ↦ omega (arith, h, l, same) ])

  no_output : (m r : ℕ) → r < 2 * n + n → adds s w x u m r output ≡ pos 0
  no_output m r h = adds_none s w x u m (2 * n + n + 0) r output (λ same. omega (arith, h, same)) (in_output n v)

  of_forward : (m r : ℕ) → m ≤ last → r < n → pos (q * g) *ℤ x m r ≡ all_add s w x u m (forward_row k r)
  of_forward m r h l =
      meet m r h (omega arith)
      ∙ adds_first s w x u m r (forwards ++ backwards ++ states) output (no_output m r (omega arith))
      ∙ adds_first s w x u m r (forwards ++ backwards) states (no_states m r (inl (omega arith)))
      ∙ adds_first s w x u m r forwards backwards (no_backwards m r (inl l))
      ∙ adds_its_row s w x u m 0 n (forward_row k) (λ i l. in_forward k i) r r l (omega arith)

  of_backward : (m i : ℕ) → m ≤ last → i < n → pos (q * g) *ℤ x m (n + i) ≡ all_add s w x u m (backward_row k i)
  of_backward m i h l =
      let r = n + i in
      meet m r h (omega arith)
      ∙ adds_first s w x u m r (forwards ++ backwards ++ states) output (no_output m r (omega arith))
      ∙ adds_first s w x u m r (forwards ++ backwards) states (no_states m r (inl (omega arith)))
      ∙ adds_second s w x u m r forwards backwards (no_forwards m r (omega arith))
      ∙ adds_its_row s w x u m n n (backward_row k) (λ i l. in_backward k i l) i r l refl

  of_state : (m i : ℕ) → m ≤ last → i < n → pos (q * g) *ℤ x m (2 * n + i) ≡ all_add s w x u m (state_row n i)
  of_state m i h l =
      let r = 2 * n + i in
      meet m r h (omega arith)
      ∙ adds_first s w x u m r (forwards ++ backwards ++ states) output (no_output m r (omega arith))
      ∙ adds_second s w x u m r (forwards ++ backwards) states
      (adds_second s w x u m r forwards backwards (no_forwards m r (omega arith))
      ∙ no_backwards m r (inr (omega arith)))
      ∙ adds_its_row s w x u m (2 * n) n (state_row n) (λ i l. in_state n i) i r l refl

  pub of_output : (m : ℕ) → m ≤ last → pos (q * g) *ℤ x m (2 * n + n + 0) ≡ all_add s w x u m output
  of_output m h =
      let r = 2 * n + n + 0 in
      let outside = adds_second s w x u m r forwards backwards (no_forwards m r (omega arith))
      ∙ no_backwards m r (inr (omega arith)) in
      meet m r h (omega arith)
      ∙ adds_second s w x u m r (forwards ++ backwards ++ states) output
      (adds_second s w x u m r (forwards ++ backwards) states outside ∙ no_states m r (inr (omega arith)))
      ∙ adds_here s w x u m r output (in_output n v)

  -- a state keeps what came back
  kept_back : (m i : ℕ) → m ≤ last → i < n → x m (2 * n + i) ≡ x m (n - 1 + i)
  kept_back m i h l = cancelled (q * g) (x m (2 * n + i)) (x m (n - 1 + i)) positive (of_state m i h l
      ∙ alone q g (x m (n - 1 + i)))

  state_before : (m i : ℕ) → m ≤ last → i < n → before x m (2 * n + i) ≡ before x m (n - 1 + i)
  state_before zero i h l = refl
  state_before (suc m) i h l = kept_back m i (omega arith) l

  forward_sum : (m r : ℕ) → all_add s w x u m (forward_row k r)
      ≡ w one_fraction *ℤ above x u m r +ℤ w (minus (coefficient k (n - 1 - r))) *ℤ before x m (2 * n
      + (n - 1 - r))
  forward_sum m zero = nothing_more (w one_fraction *ℤ u m 0)
      (w (minus (coefficient k (n - 1 - 0))) *ℤ before x m (2 * n + (n - 1 - 0)))
  forward_sum m (suc r) = nothing_more (w one_fraction *ℤ x m r)
      (w (minus (coefficient k (n - 1 - suc r))) *ℤ before x m (2 * n + (n - 1 - suc r)))

  pub form_ladder : IsLadder (weight q g) (q * g) last k u x
  form_ladder = record {
    forward = λ m r h l.
        of_forward m r h l ∙ forward_sum m r
        ∙ ap (λ b. w one_fraction *ℤ above x u m r +ℤ w (minus (coefficient k (n - 1 - r))) *ℤ b)
        (state_before m (n - 1 - r) h (omega arith));
    backward = λ m i h l.
        of_backward m i h l
        ∙ nothing_more (w (minus (minus (coefficient k i))) *ℤ x m (n - 1 - i))
        (w one_fraction *ℤ before x m (2 * n + i))
        ∙ ap₂ (λ c b. w c *ℤ x m (n - 1 - i) +ℤ w one_fraction *ℤ b) (minus_twice (coefficient k i))
        (state_before m i h l);
  }
