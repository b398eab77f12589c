-- The cascade in the first direct form puts out what the equations of its sections put out.
use Rattle.std.proofs.Common.{◌≡◌, ◌⊎◌, ℕ, zero, suc, ◌+◌, ◌-◌, ◌*◌, ◌<◌, ◌≤◌, inl, inr, List, [], ◌∷◌, ◌++◌}
use Rattle.std.proofs.Common.{refl, arith, sym, ap, ap₂, subst, ◌∙◌}
use Rattle.std.proofs.Math.IntN.{ℤ, pos, ◌+ℤ◌, ◌*ℤ◌}
use Rattle.std.proofs.lemmas.Bool.{cases_lt}
use Rattle.std.proofs.lemmas.Int.{ints}
use Rattle.std.proofs.lemmas.List.Elements.{All-head, All-tail}
use Rattle.fx_math.specs.Sums.{joined}
use Rattle.fx_math.specs.Unroll.{before}
use Rattle.fx_nums.specs.Fraction.{Fraction, minus}
use Rattle.fx_eqs.specs.Textbook.{sos_equations}
use Rattle.fx_eqs.specs.TextbookRuns.{section_source}
use Rattle.fx_net.specs.Run.{IsDenominator}
use Rattle.fx_sif.specs.Entries.{entry, delay_row, delays}
use Rattle.fx_sif.specs.SameOutputs.{net_alone, HasOutputs}
use Rattle.fx_sif.specs.declared.parts.Block.TheVariants.{K, M, Q}
use Rattle.fx_sif.specs.declared.parts.Entry.{Entry}
use Rattle.fx_sif.specs.declared.parts.Sizes.{Sizes}
use Rattle.fx_sif.proofs.Agreement.{Agrees, has_outputs_of}
use Rattle.fx_sif.proofs.Delays.{alone, delay_in, delayed}
use Rattle.fx_sif.proofs.Denominators.{IsSuited, all_of_both, all_of_rows, entries_suited}
use Rattle.fx_sif.proofs.Earlier.{ago, weigh}
use Rattle.fx_sif.proofs.EntriesOfRow.{InRow}
use Rattle.fx_sif.proofs.LagSums.{sequence}
use Rattle.fx_sif.proofs.OneScale.{RowsMeet, cancelled, weight}
use Rattle.fx_sif.proofs.RowSums.{adds, adds_first, adds_here, adds_its_row, adds_no_row, adds_none}
use Rattle.fx_sif.proofs.RowSums.{adds_second, all_add}
use Rattle.fx_sif.specs.Implicit.{single}
use Rattle.fx_cascade.specs.Cascades.{taken_in, last_section, df1_section, df1_states}
use Rattle.fx_cascade.specs.Cascades.{cascade_df1_entries, cascade_df1_form}
use Rattle.fx_cascade.specs.Sections.{SectionsFit, count_of, b0, b1, b2, a1, a2}
use Rattle.fx_cascade.proofs.NeverRefused.{count_fits, df1_fits}
use Rattle.fx_cascade.proofs.SectionSums.{adds_its_part, adds_no_part, before_is, taken_adds, taken_here, taken_suits}
use Rattle.fx_cascade.proofs.SectionsMeet.{MeetSections, SectionSuits, equations_fit, equations_meet_sections}
use Rattle.fx_cascade.proofs.SectionsMeet.{equations_suit, fed_back_is, numerator_is, sections_same}

-- the earlier inputs, and then the feedback
regrouped : (a b c d e : ℤ) → a +ℤ (b +ℤ (c +ℤ (d +ℤ (e +ℤ pos 0)))) ≡ (a +ℤ (b +ℤ (c +ℤ pos 0))) +ℤ (d +ℤ (e +ℤ pos 0))
regrouped a b c d e = omega (arith, ints)

module _ (cs : List Fraction) (fits : SectionsFit cs) where
  abbrev n : ℕ
  n = count_of cs

  abbrev s : Sizes
  s = single n (2 * n + 2)

  abbrev variables : List Entry
  variables = joined n (df1_section cs)

  abbrev inputs : List Entry
  inputs = delays Q 0 0 2

  abbrev states : List Entry
  states = joined n df1_states

  abbrev output : List Entry
  output = last_section n

  each_variable : (i : ℕ) → i < n → InRow s (0 + i) (df1_section cs i)
  each_variable i h =
      let same : i ≡ 0 + i = omega arith in
      subst (λ r. InRow s r (df1_section cs i)) same
      (taken_here s i (b0 cs i)
      (entry M i (2 * i) (b1 cs i) ∷ entry M i (2 * i + 1) (b2 cs i) ∷ entry M i (2 * i + 2)
      (minus (a1 cs i)) ∷ entry M i (2 * i + 3) (minus (a2 cs i)) ∷ [])
      (refl, refl, (refl, refl, (refl, refl, (refl, refl, tt)))))

  each_input : (i : ℕ) → i < 2 → InRow s (n + 0 + i) (delay_row Q 0 0 i)
  each_input i h = delay_in s Q 0 0 i (λ i. refl) (λ i j. refl)

  each_state : (j i : ℕ) → i < 2 → InRow s (n + (2 * j + 2) + i) (delay_row K j (2 * j + 2) i)
  each_state j i h = delay_in s K j (2 * j + 2) i (λ i. refl) (λ i j. refl)

  in_output : InRow s (n + (2 * n + 2) + 0) output
  in_output = (refl, refl, tt)

  suits : (q : ℕ) → IsDenominator (net_alone (cascade_df1_form cs)) q → (i : ℕ) → i < n → SectionSuits q cs i
  suits q d i h =
      let T = IsSuited q in
      let all = (all_of_both T (variables ++ inputs ++ states) output
      (entries_suited (cascade_df1_form cs) (df1_fits cs fits) q d)).0 in
      let front = (all_of_both T variables inputs (all_of_both T (variables ++ inputs) states all).0).0 in
      let section = all_of_rows T n (df1_section cs) front i h in
      let of_b1 = entry M i (2 * i) (b1 cs i) in
      let of_b2 = entry M i (2 * i + 1) (b2 cs i) in
      let of_a1 = entry M i (2 * i + 2) (minus (a1 cs i)) in
      let of_a2 = entry M i (2 * i + 3) (minus (a2 cs i)) in
      let one = All-tail T (taken_in i (b0 cs i)) (of_b1 ∷ of_b2 ∷ of_a1 ∷ of_a2 ∷ []) section in
      let two = All-tail T of_b1 (of_b2 ∷ of_a1 ∷ of_a2 ∷ []) one in
      let three = All-tail T of_b2 (of_a1 ∷ of_a2 ∷ []) two in
      let four = All-tail T of_a1 (of_a2 ∷ []) three in
      record {
        of_b0 = taken_suits q i (b0 cs i)
            (All-head T (taken_in i (b0 cs i)) (of_b1 ∷ of_b2 ∷ of_a1 ∷ of_a2 ∷ []) section);
        of_b1 = All-head T of_b1 (of_b2 ∷ of_a1 ∷ of_a2 ∷ []) one refl;
        of_b2 = All-head T of_b2 (of_a1 ∷ of_a2 ∷ []) two refl;
        of_a1 = All-head T of_a1 (of_a2 ∷ []) three refl;
        of_a2 = All-head T of_a2 [] four refl;
      }

  module _ (q g last : ℕ) (x u : ℕ → ℕ → ℤ) (positive : 0 < q * g)
      (meet : RowsMeet (cascade_df1_form cs) q g last x u) where
    abbrev w : Fraction → ℤ
    w = weight q g

    -- ---- what stands in other rows

    no_variable : (k r : ℕ) → n ≤ r → adds s w x u k r variables ≡ pos 0
    no_variable k r h = adds_no_row s w x u k 0 n r (df1_section cs) each_variable
        (λ i l same. omega (arith, h, l, same))

    no_input : (k r : ℕ) → (r < n) ⊎ (n + 2 ≤ r) → adds s w x u k r inputs ≡ pos 0
    no_input k r apart = adds_no_row s w x u k (n + 0) 2 r (delay_row Q 0 0) each_input
        (λ i l same. elim apart [ inl h ↦ omega (arith, h, l, same) | inr h ↦ omega (arith, h, l, same) ])

    no_section : (k r j : ℕ) → (r < n + (2 * j + 2)) ⊎ (n + (2 * j + 2) + 2 ≤ r) →
        adds s w x u k r (df1_states j) ≡ pos 0
    no_section k r j apart =
        adds_no_row s w x u k (n + (2 * j + 2)) 2 r (delay_row K j (2 * j + 2)) (each_state j)
        (λ i l same. elim apart [ inl h ↦ omega (arith, h, l, same) | inr h ↦ omega (arith, h, l, same) ])

    no_state : (k r : ℕ) → (r < n + 2) ⊎ (n + (2 * n + 2) ≤ r) → adds s w x u k r states ≡ pos 0
    no_state k r apart = adds_no_part s w x u k n r df1_states
        (λ i l. no_section k r i (elim apart [ inl h ↦ inl (omega (arith, h)) | inr h ↦ inr (omega (arith, h, l)) ]))

    no_output : (k r : ℕ) → r < n + (2 * n + 2) → adds s w x u k r output ≡ pos 0
    no_output k r h = adds_none s w x u k (n + (2 * n + 2) + 0) r output (λ same. omega (arith, h, same)) in_output

    -- ---- what stands in each row

    variable_row : (i k : ℕ) → i < n → adds s w x u k i (cascade_df1_entries cs) ≡ all_add s w x u k (df1_section cs i)
    variable_row i k h =
        adds_first s w x u k i (variables ++ inputs ++ states) output (no_output k i (omega (arith, h)))
        ∙ adds_first s w x u k i (variables ++ inputs) states (no_state k i (inl (omega (arith, h))))
        ∙ adds_first s w x u k i variables inputs (no_input k i (inl h))
        ∙ adds_its_row s w x u k 0 n (df1_section cs) each_variable i i h (omega arith)

    input_row : (i k : ℕ) → i < 2 →
        adds s w x u k (n + (0 + i)) (cascade_df1_entries cs) ≡ all_add s w x u k (delay_row Q 0 0 i)
    input_row i k h =
        let r : ℕ = n + (0 + i) in
        adds_first s w x u k r (variables ++ inputs ++ states) output (no_output k r (omega (arith, h)))
        ∙ adds_first s w x u k r (variables ++ inputs) states (no_state k r (inl (omega (arith, h))))
        ∙ adds_second s w x u k r variables inputs (no_variable k r (omega arith))
        ∙ adds_its_row s w x u k (n + 0) 2 (delay_row Q 0 0) each_input i r h (omega arith)

    state_row : (j : ℕ) → j < n → (i k : ℕ) → i < 2 →
        adds s w x u k (n + (2 * j + 2 + i)) (cascade_df1_entries cs) ≡ all_add s w x u k (delay_row K j (2 * j + 2) i)
    state_row j l i k h =
        let r : ℕ = n + (2 * j + 2 + i) in
        adds_first s w x u k r (variables ++ inputs ++ states) output (no_output k r (omega (arith, h, l)))
        ∙ adds_second s w x u k r (variables ++ inputs) states
        (adds_first s w x u k r variables inputs (no_input k r (inr (omega arith))) ∙ no_variable k r (omega arith))
        ∙ adds_its_part s w x u k n r df1_states j l
        (λ m b other. no_section k r m
        (elim (cases_lt m j) [
          | inl before ↦ inr (omega (arith, before))
          | inr high ↦
              (let later : j < m = omega (arith, high, other) in inl (omega (arith, later, h)))
        ]))
        ∙ adds_its_row s w x u k (n + (2 * j + 2)) 2 (delay_row K j (2 * j + 2)) (each_state j) i r h (omega arith)

    output_row : (k r : ℕ) → n + (2 * n + 2) + 0 ≡ r →
        adds s w x u k r (cascade_df1_entries cs) ≡ all_add s w x u k output
    output_row k r same =
        adds_second s w x u k r (variables ++ inputs ++ states) output
        (adds_first s w x u k r (variables ++ inputs) states (no_state k r (inr (omega (arith, same))))
        ∙ adds_first s w x u k r variables inputs (no_input k r (inr (omega (arith, same))))
        ∙ no_variable k r (omega (arith, same)))
        ∙ ap (λ p. adds s w x u k p output) (sym same)
        ∙ adds_here s w x u k (n + (2 * n + 2) + 0) output in_output

    -- ---- what the states hold

    held_inputs : (i k : ℕ) → k ≤ last → i < 2 → x k (n + (0 + i)) ≡ ago (λ k. u k 0) k i
    held_inputs = delayed (cascade_df1_form cs) q g last x u positive meet Q 0 (λ k. u k 0) 0 2 input_row
        (λ k h. refl) refl (omega arith)

    held_values : (j : ℕ) → j < n → (i k : ℕ) → k ≤ last → i < 2 → x k (n + (2 * j + 2 + i)) ≡ ago (λ k. x k j) k i
    held_values j l = delayed (cascade_df1_form cs) q g last x u positive meet K j (λ k. x k j) (2 * j + 2) 2
        (state_row j l) (λ k h. refl) refl (omega (arith, l))

    -- what a section takes in, of earlier moments
    held_before : (j : ℕ) → j < n → (i k : ℕ) → k ≤ last → i < 2 →
        x k (n + (2 * j + i)) ≡ ago (sequence x u (section_source j)) k i
    held_before zero l i k h b =
        let same : n + (2 * 0 + i) ≡ n + (0 + i) = omega arith in
        ap (x k) same ∙ held_inputs i k h b
    held_before (suc j) l i k h b =
        let same : n + (2 * suc j + i) ≡ n + (2 * j + 2 + i) = omega arith in
        ap (x k) same ∙ held_values j (omega arith) i k h b

    read_taken : (j : ℕ) → j < n → (i k : ℕ) → k ≤ last → i < 2 →
        before x k (n + (2 * j + i)) ≡ ago (sequence x u (section_source j)) k (suc i)
    read_taken j l i k h b =
        before_is x (sequence x u (section_source j)) last (n + (2 * j + i)) i (λ k h. held_before j l i k h b) k h

    read_value : (j : ℕ) → j < n → (i k : ℕ) → k ≤ last → i < 2 →
        before x k (n + (2 * j + 2 + i)) ≡ ago (λ k. x k j) k (suc i)
    read_value j l i k h b = before_is x (λ k. x k j) last (n + (2 * j + 2 + i)) i (λ k h. held_values j l i k h b) k h

    sections_meet : MeetSections cs n w (q * g) last x u
    sections_meet i k h l =
        let v = sequence x u (section_source i) in
        let t : ℕ → ℤ = λ k. x k i in
        let first : before x k (n + 2 * i)
        ≡ ago v k 1 = (let same : n + 2 * i ≡ n + (2 * i + 0) = omega arith in ap (before x k) same
        ∙ read_taken i h 0 k l (omega arith)) in
        let second : before x k (n + (2 * i + 1)) ≡ ago v k 2 = read_taken i h 1 k l (omega arith) in
        let third : before x k (n + (2 * i + 2))
        ≡ ago t k 1 = (let same : n + (2 * i + 2) ≡ n + (2 * i + 2 + 0) = omega arith in ap (before x k) same
        ∙ read_value i h 0 k l (omega arith)) in
        let fourth : before x k (n + (2 * i + 3))
        ≡ ago t k 2 = (let same : n + (2 * i + 3) ≡ n + (2 * i + 2 + 1) = omega arith in ap (before x k) same
        ∙ read_value i h 1 k l (omega arith)) in
        meet k i l (omega (arith, h))
        ∙ variable_row i k h
        ∙ taken_adds s w x u k i (b0 cs i)
        (entry M i (2 * i) (b1 cs i) ∷ entry M i (2 * i + 1) (b2 cs i) ∷ entry M i (2 * i + 2)
        (minus (a1 cs i)) ∷ entry M i (2 * i + 3) (minus (a2 cs i)) ∷ [])
        ∙ ap₂ (λ p r. w (b0 cs i) *ℤ v k
        +ℤ (w (b1 cs i) *ℤ p +ℤ (w (b2 cs i) *ℤ r +ℤ (w (minus (a1 cs i)) *ℤ before x k (n + (2 * i + 2)) +ℤ (w
        (minus (a2 cs i)) *ℤ before x k (n + (2 * i + 3)) +ℤ pos 0))))) first second
        ∙ ap₂ (λ p r. w (b0 cs i) *ℤ v k
        +ℤ (w (b1 cs i) *ℤ ago v k 1
        +ℤ (w (b2 cs i) *ℤ ago v k 2
        +ℤ (w (minus (a1 cs i)) *ℤ p +ℤ (w (minus (a2 cs i)) *ℤ r +ℤ pos 0))))) third fourth
        ∙ regrouped (w (b0 cs i) *ℤ v k) (w (b1 cs i) *ℤ ago v k 1) (w (b2 cs i) *ℤ ago v k 2)
        (w (minus (a1 cs i)) *ℤ ago t k 1) (w (minus (a2 cs i)) *ℤ ago t k 2)
        ∙ sym (ap₂ (λ b a. weigh w v k 0 b +ℤ weigh w t k 1 a) (numerator_is cs fits i h) (fed_back_is cs fits i h))

    output_is : (k r : ℕ) → k ≤ last → n + (2 * n + 2) + 0 ≡ r → x k r ≡ x k (n - 1)
    output_is k r h same =
        cancelled (q * g) (x k r) (x k (n - 1)) positive
        (meet k r h (omega (arith, same)) ∙ output_row k r same ∙ alone q g (x k (n - 1)))

  agrees : Agrees (cascade_df1_form cs) (sos_equations cs)
  agrees =
      let counts = count_fits cs fits in
      let some = counts.some in
      record {
        inputs = refl;
        outputs = refl;
        inside = λ o h. (let first : o ≡ 0 = omega (arith, h) in rw first (omega (arith, some)));
        suits = λ q d. equations_suit q cs fits (suits q d);
        same = λ q g last x y u positive meet theirs o k h l.
            let first : o ≡ 0 = omega (arith, h) in
            rw first (output_is q g last x u positive meet k (n + (2 * n + 2) + 0) l refl
            ∙ sections_same cs n (weight q g) (q * g) last x y u positive (sections_meet q g last x u positive meet)
            (equations_meet_sections cs q g last y u theirs) (n - 1) (omega (arith, some)) k l);
      }

  pub outputs_agree : HasOutputs (cascade_df1_form cs) (sos_equations cs)
  outputs_agree = has_outputs_of (cascade_df1_form cs) (sos_equations cs) (df1_fits cs fits)
      (equations_fit cs fits) agrees

pub df1_has_outputs : (cs : List Fraction) → SectionsFit cs → HasOutputs (cascade_df1_form cs) (sos_equations cs)
df1_has_outputs cs fits = outputs_agree cs fits
