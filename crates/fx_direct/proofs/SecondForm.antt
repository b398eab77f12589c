-- The second direct form puts out what its equations put out: feedback first and then the numerator gives the same as
-- the
-- numerator first.
use Rattle.std.proofs.Common.{◌≡◌, ℕ, ◌+◌, ◌*◌, ◌<◌, ◌≤◌, ◌⊎◌, inl, inr, max, List, ◌∷◌, ◌++◌, length}
use Rattle.std.proofs.Common.{length-drop, drop, refl, arith, sym, ap, ap₂, ◌∙◌}
use Rattle.std.proofs.Math.IntN.{ℤ, pos, ◌+ℤ◌, ◌*ℤ◌}
use Rattle.std.proofs.lemmas.List.{length-map}
use Rattle.std.proofs.lemmas.List.Elements.{All-head, All-tail}
use Rattle.fx_math.proofs.Ring.{mul-add}
use Rattle.fx_nums.specs.Fraction.{Fraction, one_fraction, minus}
use Rattle.fx_eqs.specs.Textbook.{tf_equations}
use Rattle.fx_net.specs.Run.{IsDenominator}
use Rattle.fx_eqs.specs.declared.limits.TheConstants.{COEFFICIENTS}
use Rattle.fx_sif.specs.Fits.{ImplicitFits}
use Rattle.fx_sif.specs.Implicit.{Implicit, single}
use Rattle.fx_sif.specs.SameOutputs.{net_alone, HasOutputs}
use Rattle.fx_sif.specs.declared.parts.Block.TheVariants.{K, L, M, N, R}
use Rattle.fx_sif.specs.declared.parts.Entry.{Entry}
use Rattle.fx_sif.specs.declared.parts.Sizes.{Sizes}
use Rattle.fx_sif.specs.Entries.{coefficient, entry, across, delay_row, delays}
use Rattle.fx_direct.specs.Forms.{order, df2_form}
use Rattle.fx_sif.proofs.Earlier.{ago, weigh}
use Rattle.fx_sif.proofs.Delays.{one_weighs, delay_in, delayed, over_states}
use Rattle.fx_sif.proofs.OneScale.{weight, RowsMeet, cancelled}
use Rattle.fx_direct.proofs.Outputs.{has_outputs}
use Rattle.fx_sif.proofs.RowSums.{adds, all_add, adds_first, adds_second, adds_here, adds_none, adds_its_row}
use Rattle.fx_sif.proofs.RowSums.{adds_no_row}
use Rattle.fx_direct.proofs.NeverRefused.{Greater, greater_order, single_fits, df2_ascends}
use Rattle.fx_sif.proofs.EntriesOfRow.{InRow, across_in}
use Rattle.fx_sif.proofs.Denominators.{IsSuited, all_of_both, entries_suited, across_suits, Suits, first_suits}
use Rattle.fx_sif.proofs.EarlierSums.{weigh_same, weigh_scaled, weigh_sum, weigh_exchanged}
use Rattle.fx_sif.proofs.Recursion.{fed_back, MeetsAt, first_lag}

-- ---- in either order

-- Where t is the input with the feedback over t itself, and y is the numerator over t, y meets the recursion.
numerator_last : (w : Fraction → ℤ) (d : ℕ) (b a : List Fraction) (u t y : ℕ → ℤ) (k : ℕ) → 0 < d →
    ((j : ℕ) → j ≤ k → pos d *ℤ t j ≡ pos d *ℤ u j +ℤ weigh w t j 1 (fed_back a)) →
    ((j : ℕ) → j ≤ k → pos d *ℤ y j ≡ weigh w t j 0 b) → MeetsAt w d b a u y k
numerator_last w d b a u t y k positive of_t of_y =
    let e : ℤ = pos d in
    let fed = fed_back a in
    let inputs : ℤ = weigh w u k 0 b in
    let outputs : ℤ = weigh w y k 1 fed in
    cancelled d (e *ℤ y k) (inputs +ℤ outputs) positive
    (ap (λ v. e *ℤ v) (of_y k (omega arith))
    ∙ sym (weigh_scaled w e t k b 0)
    ∙ weigh_same w (λ j. e *ℤ t j) (λ j. e *ℤ u j +ℤ weigh w t j 1 fed) k b 0 of_t
    ∙ weigh_sum w (λ j. e *ℤ u j) (λ j. weigh w t j 1 fed) k b 0
    ∙ ap₂ (λ p r. p +ℤ r)
    (weigh_scaled w e u k b 0)
    (sym (weigh_exchanged w t k b 0 fed 1)
    ∙ weigh_same w (λ j. weigh w t j 0 b) (λ j. e *ℤ y j) k fed 1 (λ j h. sym (of_y j h))
    ∙ weigh_scaled w e y k fed 1)
    ∙ sym (mul-add e inputs outputs))

-- ---- the rows

-- n states, at least as many as either list wants
abbrev form_with : List Fraction → List Fraction → ℕ → Implicit
form_with b a n = record {
  sizes = single 1 n;
  entries = (entry N 0 0 one_fraction ∷ across M 0 0 (fed_back a)) ++ delays K 0 0 n
      ++ (entry L 0 0 (coefficient b 0) ∷ across R 0 0 (drop 1 b));
}

module _ (b a : List Fraction) (n : ℕ) (low : 1 ≤ length b) (wide : Greater n (order b) (order a))
    (fits : ImplicitFits (form_with b a n)) where
  abbrev s : Sizes
  s = single 1 n

  abbrev variable : List Entry
  variable = entry N 0 0 one_fraction ∷ across M 0 0 (fed_back a)

  abbrev states : List Entry
  states = delays K 0 0 n

  abbrev output : List Entry
  output = entry L 0 0 (coefficient b 0) ∷ across R 0 0 (drop 1 b)

  in_variable : InRow s 0 variable
  in_variable = (refl, refl, across_in s 0 M 0 (fed_back a) 0 (λ j. refl) refl)

  each_state : (i : ℕ) → i < n → InRow s (1 + 0 + i) (delay_row K 0 0 i)
  each_state i h = delay_in s K 0 0 i (λ i. refl) (λ i j. refl)

  in_output : InRow s (1 + n + 0) output
  in_output = (refl, refl, across_in s (1 + n + 0) R 0 (drop 1 b) 0 (λ j. refl) refl)

  numerator : (q : ℕ) → IsDenominator (net_alone (form_with b a n)) q → Suits q b
  numerator q d =
      let part = (all_of_both (IsSuited q) (variable ++ states) output (entries_suited (form_with b a n) fits q d)).1 in
      let first = entry L 0 0 (coefficient b 0) in
      let tail = across R 0 0 (drop 1 b) in
      first_suits q b low (All-head (IsSuited q) first tail part refl)
      (across_suits q R 0 (drop 1 b) 0 (λ j. refl) (λ c. refl) (All-tail (IsSuited q) first tail part))

  denominator : (q : ℕ) → IsDenominator (net_alone (form_with b a n)) q → Suits q (fed_back a)
  denominator q d =
      let rows = (all_of_both (IsSuited q) (variable ++ states) output (entries_suited (form_with b a n) fits q d)).0 in
      let part = (all_of_both (IsSuited q) variable states rows).0 in
      across_suits q M 0 (fed_back a) 0 (λ j. refl) (λ c. refl)
      (All-tail (IsSuited q) (entry N 0 0 one_fraction) (across M 0 0 (fed_back a)) part)

  module _ (q g last : ℕ) (x u : ℕ → ℕ → ℤ) (positive : 0 < q * g)
      (meet : RowsMeet (form_with b a n) q g last x u) where
    abbrev w : Fraction → ℤ
    w = weight q g

    abbrev t : ℕ → ℤ
    t k = x k 0

    no_states : (k r : ℕ) → (r < 1) ⊎ (1 + n ≤ r) → adds s w x u k r states ≡ pos 0
    no_states k r apart = adds_no_row s w x u k (1 + 0) n r (delay_row K 0 0) each_state
        (λ i l same. elim apart [ inl h ↦ omega (arith, h, l, same) | inr h ↦ omega (arith, h, l, same) ])

    no_output : (k r : ℕ) → r < 1 + n → adds s w x u k r output ≡ pos 0
    no_output k r h = adds_none s w x u k (1 + n + 0) r output (λ same. omega (arith, h, same)) in_output

    no_variable : (k r : ℕ) → 0 < r → adds s w x u k r variable ≡ pos 0
    no_variable k r h = adds_none s w x u k 0 r variable (λ same. omega (arith, h, same)) in_variable

    state_row : (i k : ℕ) → i < n →
        adds s w x u k (1 + (0 + i)) (form_with b a n).entries ≡ all_add s w x u k (delay_row K 0 0 i)
    state_row i k h =
        let r : ℕ = 1 + (0 + i) in
        adds_first s w x u k r (variable ++ states) output (no_output k r (omega arith))
        ∙ adds_second s w x u k r variable states (no_variable k r (omega arith))
        ∙ adds_its_row s w x u k (1 + 0) n (delay_row K 0 0) each_state i r h (omega arith)

    held : (i k : ℕ) → k ≤ last → i < n → x k (1 + (0 + i)) ≡ ago t k i
    held = delayed (form_with b a n) q g last x u positive meet K 0 t 0 n state_row (λ k h. refl) refl (omega arith)

    of_variable : (k : ℕ) → k ≤ last → pos (q * g) *ℤ t k ≡ pos (q * g) *ℤ u k 0 +ℤ weigh w t k 1 (fed_back a)
    of_variable k h =
        let few : 0 + length (fed_back a) ≤ n =
        (let high = wide.right in omega (arith, high, length-map (drop 1 a) minus, length-drop 1 a)) in
        meet k 0 h (omega arith)
        ∙ adds_first s w x u k 0 (variable ++ states) output (no_output k 0 (omega arith))
        ∙ adds_first s w x u k 0 variable states (no_states k 0 (inl (omega arith)))
        ∙ adds_here s w x u k 0 variable in_variable
        ∙ ap₂ (λ c y. c *ℤ u k 0 +ℤ y) (one_weighs q g)
        (over_states (form_with b a n) q g last x u M t 0 n (λ j. refl) (λ c. refl) held k 0
        (fed_back a) 0 0 h refl few)

    of_output : (k : ℕ) → k ≤ last → pos (q * g) *ℤ x k (1 + n + 0) ≡ weigh w t k 0 b
    of_output k h =
        let r : ℕ = 1 + n + 0 in
        let few : 0 + length (drop 1 b) ≤ n = (let high = wide.left in omega (arith, high, length-drop 1 b)) in
        meet k r h (omega arith)
        ∙ adds_second s w x u k r (variable ++ states) output
        (adds_first s w x u k r variable states (no_states k r (inr (omega arith))) ∙ no_variable k r (omega arith))
        ∙ adds_here s w x u k r output in_output
        ∙ ap (λ y. w (coefficient b 0) *ℤ t k +ℤ y)
        (over_states (form_with b a n) q g last x u R t 0 n (λ j. refl) (λ c. refl) held k 0
        (drop 1 b) 0 0 h refl few)
        ∙ first_lag w t k b low

  meets : (q g last : ℕ) (x u : ℕ → ℕ → ℤ) → 0 < q * g → RowsMeet (form_with b a n) q g last x u → (k : ℕ) → k ≤ last →
      MeetsAt (weight q g) (q * g) b a (λ k. u k 0) (λ k. x k (1 + n + 0)) k
  meets q g last x u positive meet k h =
      numerator_last (weight q g) (q * g) b a (λ k. u k 0) (λ k. x k 0) (λ k. x k (1 + n + 0)) k positive
      (λ j l. of_variable q g last x u positive meet j (omega arith))
      (λ j l. of_output q g last x u positive meet j (omega arith))

  pub df2_outputs : length b ≤ COEFFICIENTS → length a ≤ COEFFICIENTS → HasOutputs (form_with b a n) (tf_equations b a)
  df2_outputs short_b short_a =
      has_outputs (form_with b a n) b a short_b short_a fits
      (record { inputs = refl; outputs = refl; numerator = numerator; denominator = denominator; meets = meets })

pub df2_has_outputs : (b a : List Fraction) → 1 ≤ length b → length b ≤ COEFFICIENTS → length a ≤ COEFFICIENTS →
    HasOutputs (df2_form b a) (tf_equations b a)
df2_has_outputs b a low high high_back =
    let n : ℕ = max (order b) (order a) in
    let wide = greater_order b a high high_back in
    let few : n ≤ 12 = wide.high in
    df2_outputs b a n low wide
    (single_fits 1 n (form_with b a n).entries (df2_ascends b a n wide) (omega arith)) high high_back
