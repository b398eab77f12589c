-- The first direct form puts out what its equations put out.
use Rattle.std.proofs.Common.{◌≡◌, ℕ, ◌+◌, ◌*◌, ◌<◌, ◌≤◌, ◌⊎◌, inl, inr, List, [], ◌∷◌, ◌++◌, length}
use Rattle.std.proofs.Common.{length-drop, drop, All, refl, arith, sym, ap, ap₂, ◌∙◌}
use Rattle.std.proofs.Math.IntN.{ℤ, pos, ◌+ℤ◌, ◌*ℤ◌}
use Rattle.std.proofs.lemmas.List.{length-map}
use Rattle.std.proofs.lemmas.List.Elements.{All-head, All-tail}
use Rattle.fx_nums.specs.Fraction.{Fraction, one_fraction, minus}
use Rattle.fx_eqs.specs.Textbook.{tf_equations}
use Rattle.fx_net.specs.Run.{IsDenominator}
use Rattle.fx_eqs.specs.declared.limits.TheConstants.{COEFFICIENTS}
use Rattle.fx_sif.specs.Fits.{ImplicitFits}
use Rattle.fx_sif.specs.SameOutputs.{net_alone, HasOutputs}
use Rattle.fx_sif.specs.declared.parts.Block.TheVariants.{K, L, M, N, Q}
use Rattle.fx_sif.specs.declared.parts.Entry.{Entry}
use Rattle.fx_sif.specs.declared.parts.Sizes.{Sizes}
use Rattle.fx_sif.specs.Entries.{coefficient, entry, across, delay_row, delays}
use Rattle.fx_sif.specs.Implicit.{single}
use Rattle.fx_direct.specs.Forms.{order, df1_entries, df1_form}
use Rattle.fx_sif.proofs.Earlier.{ago, weigh}
use Rattle.fx_sif.proofs.Delays.{alone, delay_in, delayed, over_states}
use Rattle.fx_sif.proofs.OneScale.{weight, RowsMeet, cancelled}
use Rattle.fx_direct.proofs.Outputs.{has_outputs}
use Rattle.fx_sif.proofs.RowSums.{adds, all_add, adds_both, adds_first, adds_second, adds_here, adds_none}
use Rattle.fx_sif.proofs.RowSums.{adds_its_row, adds_no_row}
use Rattle.fx_direct.proofs.NeverRefused.{single_fits, df1_ascends}
use Rattle.fx_sif.proofs.EntriesOfRow.{InRow, across_in}
use Rattle.fx_sif.proofs.Denominators.{IsSuited, all_of_both, entries_suited, across_suits, Suits, first_suits}
use Rattle.fx_sif.proofs.Recursion.{fed_back, MeetsAt, meets_too, first_lag}

module _ (b a : List Fraction) (low : 1 ≤ length b) (fits : ImplicitFits (df1_form b a)) where
  abbrev nb : ℕ
  nb = order b

  abbrev na : ℕ
  na = order a

  abbrev s : Sizes
  s = single 1 (nb + na)

  abbrev feed : List Entry
  feed = entry N 0 0 (coefficient b 0) ∷ across M 0 0 (drop 1 b)

  abbrev back : List Entry
  back = across M 0 nb (fed_back a)

  abbrev inputs_before : List Entry
  inputs_before = delays Q 0 0 nb

  abbrev outputs_before : List Entry
  outputs_before = delays K 0 nb na

  abbrev output : List Entry
  output = entry L 0 0 one_fraction ∷ []

  in_feed : InRow s 0 feed
  in_feed = (refl, refl, across_in s 0 M 0 (drop 1 b) 0 (λ j. refl) refl)

  in_back : InRow s 0 back
  in_back = across_in s 0 M 0 (fed_back a) nb (λ j. refl) refl

  each_input : (i : ℕ) → i < nb → InRow s (1 + 0 + i) (delay_row Q 0 0 i)
  each_input i h = delay_in s Q 0 0 i (λ i. refl) (λ i j. refl)

  each_output : (i : ℕ) → i < na → InRow s (1 + nb + i) (delay_row K 0 nb i)
  each_output i h = delay_in s K 0 nb i (λ i. refl) (λ i j. refl)

  in_output : InRow s (1 + (nb + na) + 0) output
  in_output = (refl, refl, tt)

  suited : (q : ℕ) → IsDenominator (net_alone (df1_form b a)) q → All (IsSuited q) feed × All (IsSuited q) back
  suited q denominator =
      let P = IsSuited q in
      let all = entries_suited (df1_form b a) fits q denominator in
      let states = (all_of_both P (feed ++ back ++ inputs_before ++ outputs_before) output all).0 in
      let rows = (all_of_both P (feed ++ back ++ inputs_before) outputs_before states).0 in
      all_of_both P feed back (all_of_both P (feed ++ back) inputs_before rows).0

  numerator : (q : ℕ) → IsDenominator (net_alone (df1_form b a)) q → Suits q b
  numerator q denominator =
      let part = (suited q denominator).0 in
      let first = entry N 0 0 (coefficient b 0) in
      let tail = across M 0 0 (drop 1 b) in
      first_suits q b low (All-head (IsSuited q) first tail part refl)
      (across_suits q M 0 (drop 1 b) 0 (λ j. refl) (λ c. refl) (All-tail (IsSuited q) first tail part))

  denominator : (q : ℕ) → IsDenominator (net_alone (df1_form b a)) q → Suits q (fed_back a)
  denominator q d = across_suits q M 0 (fed_back a) nb (λ j. refl) (λ c. refl) (suited q d).1

  module _ (q g last : ℕ) (x u : ℕ → ℕ → ℤ) (positive : 0 < q * g) (meet : RowsMeet (df1_form b a) q g last x u) where
    abbrev w : Fraction → ℤ
    w = weight q g

    abbrev v : ℕ → ℤ
    v k = u k 0

    abbrev t : ℕ → ℤ
    t k = x k 0

    -- the entries of states stand in no other row
    no_inputs : (k r : ℕ) → (r < 1) ⊎ (1 + nb ≤ r) → adds s w x u k r inputs_before ≡ pos 0
    no_inputs k r apart = adds_no_row s w x u k (1 + 0) nb r (delay_row Q 0 0) each_input
        (λ i l same. elim apart [ inl h ↦ omega (arith, h, l, same) | inr h ↦ omega (arith, h, l, same) ])

    no_outputs : (k r : ℕ) → (r < 1 + nb) ⊎ (1 + (nb + na) ≤ r) → adds s w x u k r outputs_before ≡ pos 0
    no_outputs k r apart = adds_no_row s w x u k (1 + nb) na r (delay_row K 0 nb) each_output
        (λ i l same. elim apart [ inl h ↦ omega (arith, h, l, same) | inr h ↦ omega (arith, h, l, same) ])

    no_output : (k r : ℕ) → r < 1 + (nb + na) → adds s w x u k r output ≡ pos 0
    no_output k r h = adds_none s w x u k (1 + (nb + na) + 0) r output (λ same. omega (arith, h, same)) in_output

    no_variable : (k r : ℕ) → 0 < r → adds s w x u k r (feed ++ back) ≡ pos 0
    no_variable k r h =
        adds_first s w x u k r feed back (adds_none s w x u k 0 r back (λ same. omega (arith, h, same)) in_back)
        ∙ adds_none s w x u k 0 r feed (λ same. omega (arith, h, same)) in_feed

    -- what stands in each row
    input_row : (i k : ℕ) → i < nb →
        adds s w x u k (1 + (0 + i)) (df1_entries b a) ≡ all_add s w x u k (delay_row Q 0 0 i)
    input_row i k h =
        let r : ℕ = 1 + (0 + i) in
        adds_first s w x u k r (feed ++ back ++ inputs_before ++ outputs_before) output (no_output k r (omega arith))
        ∙ adds_first s w x u k r (feed ++ back ++ inputs_before) outputs_before (no_outputs k r (inl (omega arith)))
        ∙ adds_second s w x u k r (feed ++ back) inputs_before (no_variable k r (omega arith))
        ∙ adds_its_row s w x u k (1 + 0) nb (delay_row Q 0 0) each_input i r h (omega arith)

    output_row : (i k : ℕ) → i < na →
        adds s w x u k (1 + (nb + i)) (df1_entries b a) ≡ all_add s w x u k (delay_row K 0 nb i)
    output_row i k h =
        let r : ℕ = 1 + (nb + i) in
        adds_first s w x u k r (feed ++ back ++ inputs_before ++ outputs_before) output (no_output k r (omega arith))
        ∙ adds_second s w x u k r (feed ++ back ++ inputs_before) outputs_before
        (adds_first s w x u k r (feed ++ back) inputs_before (no_inputs k r (inr (omega arith)))
        ∙ no_variable k r (omega arith))
        ∙ adds_its_row s w x u k (1 + nb) na (delay_row K 0 nb) each_output i r h (omega arith)

    variable_row : (k : ℕ) → adds s w x u k 0 (df1_entries b a) ≡ all_add s w x u k feed +ℤ all_add s w x u k back
    variable_row k =
        adds_first s w x u k 0 (feed ++ back ++ inputs_before ++ outputs_before) output (no_output k 0 (omega arith))
        ∙ adds_first s w x u k 0 (feed ++ back ++ inputs_before) outputs_before (no_outputs k 0 (inl (omega arith)))
        ∙ adds_first s w x u k 0 (feed ++ back) inputs_before (no_inputs k 0 (inl (omega arith)))
        ∙ adds_both s w x u k 0 feed back
        ∙ ap₂ (λ y z. y +ℤ z) (adds_here s w x u k 0 feed in_feed) (adds_here s w x u k 0 back in_back)

    last_row : (k r : ℕ) → 1 + (nb + na) + 0 ≡ r → adds s w x u k r (df1_entries b a) ≡ all_add s w x u k output
    last_row k r same =
        adds_second s w x u k r (feed ++ back ++ inputs_before ++ outputs_before) output
        (adds_first s w x u k r (feed ++ back ++ inputs_before) outputs_before (no_outputs k r (inr (omega arith)))
        ∙ adds_first s w x u k r (feed ++ back) inputs_before (no_inputs k r (inr (omega arith)))
        ∙ no_variable k r (omega arith))
        ∙ ap (λ p. adds s w x u k p output) (sym same)
        ∙ adds_here s w x u k (1 + (nb + na) + 0) output in_output

    held_inputs : (i k : ℕ) → k ≤ last → i < nb → x k (1 + (0 + i)) ≡ ago v k i
    held_inputs = delayed (df1_form b a) q g last x u positive meet Q 0 v 0 nb input_row (λ k h. refl) refl
        (omega arith)

    held_outputs : (i k : ℕ) → k ≤ last → i < na → x k (1 + (nb + i)) ≡ ago t k i
    held_outputs = delayed (df1_form b a) q g last x u positive meet K 0 t nb na output_row (λ k h. refl) refl
        (omega arith)

    variable_meets : (k : ℕ) → k ≤ last → MeetsAt w (q * g) b a v t k
    variable_meets k h =
        let few : 0 + length (drop 1 b) ≤ nb = omega (arith, length-drop 1 b) in
        let few_back : 0 + length (fed_back a) ≤ na = omega (arith, length-map (drop 1 a) minus, length-drop 1 a) in
        meet k 0 h (omega arith)
        ∙ variable_row k
        ∙ ap₂ (λ y z. (w (coefficient b 0) *ℤ v k +ℤ y) +ℤ z)
        (over_states (df1_form b a) q g last x u M v 0 nb (λ j. refl) (λ c. refl) held_inputs k 0
        (drop 1 b) 0 0 h refl few)
        (over_states (df1_form b a) q g last x u M t nb na (λ j. refl) (λ c. refl) held_outputs k 0 (fed_back a) 0 nb h
        (omega arith) few_back)
        ∙ ap (λ y. y +ℤ weigh w t k 1 (fed_back a)) (first_lag w v k b low)

    output_is : (k : ℕ) → k ≤ last → x k (1 + (nb + na) + 0) ≡ t k
    output_is k h = cancelled (q * g) (x k (1 + (nb + na) + 0)) (t k) positive
        (meet k (1 + (nb + na) + 0) h (omega arith) ∙ last_row k (1 + (nb + na) + 0) refl ∙ alone q g (t k))

  meets : (q g last : ℕ) (x u : ℕ → ℕ → ℤ) → 0 < q * g → RowsMeet (df1_form b a) q g last x u → (k : ℕ) → k ≤ last →
      MeetsAt (weight q g) (q * g) b a (λ k. u k 0) (λ k. x k (1 + (nb + na) + 0)) k
  meets q g last x u positive meet k h =
      meets_too (weight q g) (q * g) b a (λ k. u k 0) (λ k. x k 0) (λ k. x k (1 + (nb + na) + 0)) k
      (λ j l. output_is q g last x u positive meet j (omega arith))
      (variable_meets q g last x u positive meet k h)

  pub df1_outputs : length b ≤ COEFFICIENTS → length a ≤ COEFFICIENTS → HasOutputs (df1_form b a) (tf_equations b a)
  df1_outputs short_b short_a =
      has_outputs (df1_form b a) b a short_b short_a fits
      (record { inputs = refl; outputs = refl; numerator = numerator; denominator = denominator; meets = meets })

pub df1_has_outputs : (b a : List Fraction) → 1 ≤ length b → length b ≤ COEFFICIENTS → length a ≤ COEFFICIENTS →
    HasOutputs (df1_form b a) (tf_equations b a)
df1_has_outputs b a low high high_back =
    df1_outputs b a low (single_fits 1 (order b + order a) (df1_entries b a) (df1_ascends b a high high_back)
    (omega arith)) high high_back
