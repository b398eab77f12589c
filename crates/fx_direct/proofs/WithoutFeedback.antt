-- The form without feedback puts out what its equations put out.
use Rattle.std.proofs.Common.{◌≡◌, ℕ, ◌+◌, ◌*◌, ◌<◌, ◌≤◌, List, [], ◌∷◌, length, drop, length-drop, refl, arith}
use Rattle.std.proofs.Common.{lit≤, ap, ◌∙◌}
use Rattle.std.proofs.Math.IntN.{ℤ, pos, ◌+ℤ◌, ◌*ℤ◌}
use Rattle.std.proofs.lemmas.Int.{ints}
use Rattle.std.proofs.lemmas.List.Elements.{All-head, All-tail, All-nil}
use Rattle.fx_nums.specs.Fraction.{Fraction, IsWholeOver, one_fraction}
use Rattle.fx_eqs.specs.Textbook.{tf_equations}
use Rattle.fx_net.specs.Net.{plain}
use Rattle.fx_net.specs.Run.{IsDenominator}
use Rattle.fx_eqs.specs.declared.limits.TheConstants.{COEFFICIENTS}
use Rattle.fx_sif.specs.Fits.{ImplicitFits}
use Rattle.fx_sif.specs.SameOutputs.{net_alone, HasOutputs}
use Rattle.fx_sif.specs.declared.parts.Block.TheVariants.{Q, R, S}
use Rattle.fx_sif.specs.declared.parts.Entry.{Entry}
use Rattle.fx_sif.specs.declared.parts.Sizes.{Sizes}
use Rattle.fx_sif.specs.Entries.{coefficient, entry, across, delay_row, delays}
use Rattle.fx_sif.specs.Implicit.{single}
use Rattle.fx_direct.specs.Forms.{order, fir_entries, fir_form}
use Rattle.fx_sif.proofs.Earlier.{weigh}
use Rattle.fx_sif.proofs.Delays.{delay_in, delayed, over_states}
use Rattle.fx_sif.proofs.OneScale.{weight, RowsMeet}
use Rattle.fx_direct.proofs.Outputs.{has_outputs}
use Rattle.fx_sif.proofs.RowSums.{adds, all_add, adds_first, adds_second, adds_here, adds_none, adds_its_row}
use Rattle.fx_sif.proofs.RowSums.{adds_no_row}
use Rattle.fx_direct.proofs.NeverRefused.{single_fits, fir_ascends}
use Rattle.fx_sif.proofs.EntriesOfRow.{InRow, across_in}
use Rattle.fx_sif.proofs.Denominators.{IsSuited, all_of_both, entries_suited, across_suits, first_suits, Suits}
use Rattle.fx_sif.proofs.Recursion.{MeetsAt, first_lag}

no_feedback : (a : ℤ) → a ≡ a +ℤ pos 0
no_feedback a = omega (arith, ints)

module _ (b : List Fraction) (low : 1 ≤ length b) (fits : ImplicitFits (fir_form b)) where
  abbrev s : Sizes
  s = single 0 (order b)

  abbrev states : List Entry
  states = delays Q 0 0 (order b)

  abbrev output : List Entry
  output = entry S 0 0 (coefficient b 0) ∷ across R 0 0 (drop 1 b)

  each_state : (i : ℕ) → i < order b → InRow s (0 + i) (delay_row Q 0 0 i)
  each_state i h = delay_in s Q 0 0 i (λ i. refl) (λ i j. refl)

  in_output : InRow s (0 + order b + 0) output
  in_output = (refl, refl, across_in s (0 + order b + 0) R 0 (drop 1 b) 0 (λ j. refl) refl)

  suits : (q : ℕ) → IsDenominator (net_alone (fir_form b)) q → Suits q b
  suits q denominator =
      let part = (all_of_both (IsSuited q) states output (entries_suited (fir_form b) fits q denominator)).1 in
      let tail = across R 0 0 (drop 1 b) in
      first_suits q b low
      (All-head (IsSuited q) (entry S 0 0 (coefficient b 0)) tail part refl)
      (across_suits q R 0 (drop 1 b) 0 (λ j. refl) (λ c. refl)
      (All-tail (IsSuited q) (entry S 0 0 (coefficient b 0)) tail part))

  meets : (q g last : ℕ) (x u : ℕ → ℕ → ℤ) → 0 < q * g → RowsMeet (fir_form b) q g last x u → (k : ℕ) → k ≤ last →
      MeetsAt (weight q g) (q * g) b (one_fraction ∷ []) (λ k. u k 0) (λ k. x k (0 + order b + 0)) k
  meets q g last x u positive meet k h =
      let w = weight q g in
      let v : ℕ → ℤ = λ k. u k 0 in
      let state_row : (i k : ℕ) → i < order b →
      adds s w x u k (0 + (0 + i)) (fir_entries b) ≡ all_add s w x u k (delay_row Q 0 0 i) =
      (λ i k l. adds_first s w x u k (0 + (0 + i)) states output
      (adds_none s w x u k (0 + order b + 0) (0 + (0 + i)) output (λ same. omega (arith, same, l)) in_output)
      ∙ adds_its_row s w x u k 0 (order b) (delay_row Q 0 0) each_state i (0 + (0 + i)) l (omega arith)) in
      let held = delayed (fir_form b) q g last x u positive meet Q 0 v 0 (order b) state_row (λ k h. refl) refl
      (omega arith) in
      let count : 0 + length (drop 1 b) ≤ order b = omega (arith, length-drop 1 b) in
      meet k (0 + order b + 0) h (omega arith)
      ∙ adds_second s w x u k (0 + order b + 0) states output
      (adds_no_row s w x u k 0 (order b) (0 + order b + 0) (delay_row Q 0 0) each_state
      (λ i l same. omega (arith, l, same)))
      ∙ adds_here s w x u k (0 + order b + 0) output in_output
      ∙ ap (λ y. w (coefficient b 0) *ℤ v k +ℤ y)
      (over_states (fir_form b) q g last x u R v 0 (order b) (λ j. refl) (λ c. refl) held k 0
      (drop 1 b) 0 0 h refl count)
      ∙ first_lag w v k b low
      ∙ no_feedback (weigh w v k 0 b)

  pub fir_outputs : length b ≤ COEFFICIENTS → HasOutputs (fir_form b) (tf_equations b (one_fraction ∷ []))
  fir_outputs short = has_outputs (fir_form b) b (one_fraction ∷ []) short (lit≤ tt) fits (record {
    inputs = refl;
    outputs = refl;
    numerator = suits;
    denominator = λ q d. All-nil (λ (c : Fraction). IsWholeOver q (plain c));
    meets = meets;
  })

pub fir_has_outputs : (b : List Fraction) → 1 ≤ length b → length b ≤ COEFFICIENTS →
    HasOutputs (fir_form b) (tf_equations b (one_fraction ∷ []))
fir_has_outputs b low high =
    fir_outputs b low (single_fits 0 (order b) (fir_entries b) (fir_ascends b high) (omega arith)) high
