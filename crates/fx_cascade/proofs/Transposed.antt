-- The cascade in the second direct form transposed puts out what the equations of its sections put out: each state
-- holds
-- what is still to be put out of its section.
use Rattle.std.proofs.Common.{◌≡◌, ◌⊎◌, ℕ, zero, suc, ◌+◌, ◌-◌, ◌*◌, ◌<◌, ◌≤◌, inl, inr, List, [], ◌∷◌, ◌++◌}
use Rattle.std.proofs.Common.{refl, arith, sym, ap, ap₂, subst, ◌∙◌}
use Rattle.std.proofs.Math.IntN.{ℤ, pos, ◌+ℤ◌, ◌*ℤ◌}
use Rattle.std.proofs.lemmas.Int.{ints}
use Rattle.std.proofs.lemmas.List.Elements.{All-head, All-tail}
use Rattle.fx_math.specs.Sums.{joined}
use Rattle.fx_math.specs.Unroll.{before}
use Rattle.fx_nums.specs.Fraction.{Fraction, one_fraction, minus}
use Rattle.fx_eqs.specs.Textbook.{sos_equations}
use Rattle.fx_eqs.specs.TextbookRuns.{denominator_of, numerator_of, section_source}
use Rattle.fx_net.specs.Run.{IsDenominator}
use Rattle.fx_sif.specs.Entries.{entry}
use Rattle.fx_sif.specs.SameOutputs.{net_alone, HasOutputs}
use Rattle.fx_sif.specs.declared.parts.Block.TheVariants.{K, M, P}
use Rattle.fx_sif.specs.declared.parts.Entry.{Entry}
use Rattle.fx_sif.specs.declared.parts.Sizes.{Sizes}
use Rattle.fx_sif.proofs.Agreement.{Agrees, has_outputs_of}
use Rattle.fx_sif.proofs.Delays.{alone, one_weighs}
use Rattle.fx_sif.proofs.Denominators.{IsSuited, all_of_both, all_of_rows, entries_suited}
use Rattle.fx_sif.proofs.Earlier.{ago, weigh}
use Rattle.fx_sif.proofs.EntriesOfRow.{InRow}
use Rattle.fx_sif.proofs.LagSums.{sequence}
use Rattle.fx_sif.proofs.OneScale.{RowsMeet, cancelled, weight}
use Rattle.fx_sif.proofs.Recursion.{MeetsAt}
use Rattle.fx_sif.proofs.RowSums.{adds, adds_first, adds_here, adds_its_row, adds_no_row, adds_none}
use Rattle.fx_sif.proofs.RowSums.{adds_second, all_add}
use Rattle.fx_sif.specs.Implicit.{single}
use Rattle.fx_cascade.specs.Cascades.{taken_in, last_section, df2t_section, state_takes, first_state}
use Rattle.fx_cascade.specs.Cascades.{second_state, df2t_states, cascade_df2t_entries, cascade_df2t_form}
use Rattle.fx_cascade.specs.Sections.{SectionsFit, count_of, b0, b1, b2, a1, a2}
use Rattle.fx_cascade.proofs.NeverRefused.{count_fits, df2t_fits}
use Rattle.fx_cascade.proofs.SectionSums.{adds_its_part, adds_no_part, state_adds, state_here, state_suits}
use Rattle.fx_cascade.proofs.SectionSums.{taken_adds, taken_here, taken_suits}
use Rattle.fx_cascade.proofs.SectionsMeet.{MeetSections, SectionSuits, equations_fit, equations_meet_sections}
use Rattle.fx_cascade.proofs.SectionsMeet.{equations_suit, fed_back_is, numerator_is, sections_same}

-- ---- sums

nothing_yet : (d : ℕ) (a b : ℤ) → pos d *ℤ pos 0 ≡ a *ℤ pos 0 +ℤ b *ℤ pos 0
nothing_yet d a b = omega (arith, ints)

all_nothing_yet : (d : ℕ) (a b c e : ℤ) → pos d *ℤ pos 0 ≡ a *ℤ pos 0 +ℤ (b *ℤ pos 0 +ℤ (c *ℤ pos 0 +ℤ e *ℤ pos 0))
all_nothing_yet d a b c e = omega (arith, ints)

second_sum : (a b : ℤ) → a +ℤ (b +ℤ pos 0) ≡ a +ℤ b
second_sum a b = omega (arith, ints)

first_sum : (p a b c e : ℤ) → p ≡ c +ℤ e → p +ℤ (a +ℤ (b +ℤ pos 0)) ≡ a +ℤ (c +ℤ (b +ℤ e))
first_sum p a b c e h = omega (arith, ints, h)

section_sum : (a p b1 b2 c1 c2 : ℤ) → p ≡ b1 +ℤ (b2 +ℤ (c1 +ℤ c2)) →
    a +ℤ (p +ℤ pos 0) ≡ (a +ℤ (b1 +ℤ (b2 +ℤ pos 0))) +ℤ (c1 +ℤ (c2 +ℤ pos 0))
section_sum a p b1 b2 c1 c2 h = omega (arith, ints, h)

module _ (cs : List Fraction) (fits : SectionsFit cs) where
  abbrev n : ℕ
  n = count_of cs

  abbrev s : Sizes
  s = single n (2 * n)

  abbrev variables : List Entry
  variables = joined n (df2t_section cs)

  abbrev states : List Entry
  states = joined n (df2t_states cs)

  abbrev output : List Entry
  output = last_section n

  each_variable : (i : ℕ) → i < n → InRow s (0 + i) (df2t_section cs i)
  each_variable i h =
      let same : i ≡ 0 + i = omega arith in
      subst (λ r. InRow s r (df2t_section cs i)) same
      (taken_here s i (b0 cs i) (entry M i (2 * i) one_fraction ∷ []) (refl, refl, tt))

  in_first : (i : ℕ) → InRow s (n + 2 * i) (first_state cs i)
  in_first i = (
    refl,
    refl,
    state_here s (2 * i) i (b1 cs i) (entry K (2 * i) i (minus (a1 cs i)) ∷ [])
        (refl, refl, tt),
  )

  in_second : (i : ℕ) → InRow s (n + (2 * i + 1)) (second_state cs i)
  in_second i = state_here s (2 * i + 1) i (b2 cs i) (entry K (2 * i + 1) i (minus (a2 cs i)) ∷ []) (refl, refl, tt)

  in_output : InRow s (n + 2 * n + 0) output
  in_output = (refl, refl, tt)

  suits : (q : ℕ) → IsDenominator (net_alone (cascade_df2t_form cs)) q → (i : ℕ) → i < n → SectionSuits q cs i
  suits q d i h =
      let T = IsSuited q in
      let all = (all_of_both T (variables ++ states) output
      (entries_suited (cascade_df2t_form cs) (df2t_fits cs fits) q d)).0 in
      let parts = all_of_both T variables states all in
      let section = all_of_rows T n (df2t_section cs) parts.0 i h in
      let both = all_of_both T (first_state cs i) (second_state cs i) (all_of_rows T n (df2t_states cs) parts.1 i h) in
      let of_one = entry P (2 * i) (2 * i + 1) one_fraction in
      let of_b1 = state_takes (2 * i) i (b1 cs i) in
      let of_a1 = entry K (2 * i) i (minus (a1 cs i)) in
      let of_b2 = state_takes (2 * i + 1) i (b2 cs i) in
      let of_a2 = entry K (2 * i + 1) i (minus (a2 cs i)) in
      let behind = All-tail T of_one (of_b1 ∷ of_a1 ∷ []) both.0 in
      record {
        of_b0 = taken_suits q i (b0 cs i)
            (All-head T (taken_in i (b0 cs i)) (entry M i (2 * i) one_fraction ∷ []) section);
        of_b1 = state_suits q (2 * i) i (b1 cs i) (All-head T of_b1 (of_a1 ∷ []) behind);
        of_b2 = state_suits q (2 * i + 1) i (b2 cs i) (All-head T of_b2 (of_a2 ∷ []) both.1);
        of_a1 = All-head T of_a1 [] (All-tail T of_b1 (of_a1 ∷ []) behind) refl;
        of_a2 = All-head T of_a2 [] (All-tail T of_b2 (of_a2 ∷ []) both.1) refl;
      }

  module _ (q g last : ℕ) (x u : ℕ → ℕ → ℤ) (positive : 0 < q * g)
      (meet : RowsMeet (cascade_df2t_form cs) q g last x u) where
    abbrev w : Fraction → ℤ
    w = weight q g

    -- ---- what stands in other rows

    no_variable : (k r : ℕ) → n ≤ r → adds s w x u k r variables ≡ pos 0
    no_variable k r h = adds_no_row s w x u k 0 n r (df2t_section cs) each_variable
        (λ i l same. omega (arith, h, l, same))

    no_pair : (k r j : ℕ) → (n + 2 * j ≡ r → ⊥) → (n + (2 * j + 1) ≡ r → ⊥) →
        adds s w x u k r (df2t_states cs j) ≡ pos 0
    no_pair k r j not_first not_second =
        adds_first s w x u k r (first_state cs j) (second_state cs j)
        (adds_none s w x u k (n + (2 * j + 1)) r (second_state cs j) not_second (in_second j))
        ∙ adds_none s w x u k (n + 2 * j) r (first_state cs j) not_first (in_first j)

    no_state : (k r : ℕ) → (r < n) ⊎ (n + 2 * n ≤ r) → adds s w x u k r states ≡ pos 0
    no_state k r apart =
        adds_no_part s w x u k n r (df2t_states cs)
        (λ i l. no_pair k r i (λ same. elim apart [
          | inl h ↦ omega (arith, h, l, same)
          | inr h ↦ omega
              (arith, h, l, same)
        ])
        (λ same. elim apart [ inl h ↦ omega (arith, h, l, same) | inr h ↦ omega (arith, h, l, same) ]))

    no_output : (k r : ℕ) → r < n + 2 * n → adds s w x u k r output ≡ pos 0
    no_output k r h = adds_none s w x u k (n + 2 * n + 0) r output (λ same. omega (arith, h, same)) in_output

    -- ---- what stands in each row

    variable_row : (i k : ℕ) → i < n →
        adds s w x u k i (cascade_df2t_entries cs) ≡ all_add s w x u k (df2t_section cs i)
    variable_row i k h =
        adds_first s w x u k i (variables ++ states) output (no_output k i (omega (arith, h)))
        ∙ adds_first s w x u k i variables states (no_state k i (inl h))
        ∙ adds_its_row s w x u k 0 n (df2t_section cs) each_variable i i h (omega arith)

    first_row : (j k : ℕ) → j < n →
        adds s w x u k (n + 2 * j) (cascade_df2t_entries cs) ≡ all_add s w x u k (first_state cs j)
    first_row j k h =
        let r : ℕ = n + 2 * j in
        adds_first s w x u k r (variables ++ states) output (no_output k r (omega (arith, h)))
        ∙ adds_second s w x u k r variables states (no_variable k r (omega arith))
        ∙ adds_its_part s w x u k n r (df2t_states cs) j h
        (λ m b other. no_pair k r m (λ same. other (omega (arith, same))) (λ same. omega (arith, same)))
        ∙ adds_first s w x u k r (first_state cs j) (second_state cs j)
        (adds_none s w x u k (n + (2 * j + 1)) r (second_state cs j) (λ same. omega (arith, same)) (in_second j))
        ∙ adds_here s w x u k r (first_state cs j) (in_first j)

    second_row : (j k : ℕ) → j < n →
        adds s w x u k (n + (2 * j + 1)) (cascade_df2t_entries cs) ≡ all_add s w x u k (second_state cs j)
    second_row j k h =
        let r : ℕ = n + (2 * j + 1) in
        adds_first s w x u k r (variables ++ states) output (no_output k r (omega (arith, h)))
        ∙ adds_second s w x u k r variables states (no_variable k r (omega arith))
        ∙ adds_its_part s w x u k n r (df2t_states cs) j h
        (λ m b other. no_pair k r m (λ same. omega (arith, same)) (λ same. other (omega (arith, same))))
        ∙ adds_second s w x u k r (first_state cs j) (second_state cs j)
        (adds_none s w x u k (n + 2 * j) r (first_state cs j) (λ same. omega (arith, same)) (in_first j))
        ∙ adds_here s w x u k r (second_state cs j) (in_second j)

    output_row : (k r : ℕ) → n + 2 * n + 0 ≡ r → adds s w x u k r (cascade_df2t_entries cs) ≡ all_add s w x u k output
    output_row k r same =
        adds_second s w x u k r (variables ++ states) output
        (adds_first s w x u k r variables states (no_state k r (inr (omega (arith, same))))
        ∙ no_variable k r (omega (arith, same)))
        ∙ ap (λ p. adds s w x u k p output) (sym same)
        ∙ adds_here s w x u k (n + 2 * n + 0) output in_output

    -- ---- what the states hold

    module _ (i : ℕ) (h : i < n) where
      abbrev v : ℕ → ℤ
      v = sequence x u (section_source i)

      abbrev t : ℕ → ℤ
      t k = x k i

      second_holds : (k : ℕ) → k ≤ last →
          pos (q * g) *ℤ x k (n + (2 * i + 1)) ≡ w (b2 cs i) *ℤ v k +ℤ w (minus (a2 cs i)) *ℤ t k
      second_holds k l =
          meet k (n + (2 * i + 1)) l (omega (arith, h))
          ∙ second_row i k h
          ∙ state_adds s w x u k (2 * i + 1) i (b2 cs i) (entry K (2 * i + 1) i (minus (a2 cs i)) ∷ [])
          ∙ second_sum (w (b2 cs i) *ℤ v k) (w (minus (a2 cs i)) *ℤ t k)

      read_second : (k : ℕ) → k ≤ last →
          pos (q * g) *ℤ before x k (n + (2 * i + 1)) ≡ w (b2 cs i) *ℤ ago v k 1 +ℤ w (minus (a2 cs i)) *ℤ ago t k 1
      read_second zero l = nothing_yet (q * g) (w (b2 cs i)) (w (minus (a2 cs i)))
      read_second (suc k) l = second_holds k (omega arith)

      first_holds : (k : ℕ) → k ≤ last →
          pos (q * g) *ℤ x k (n + 2 * i)
          ≡ w (b1 cs i) *ℤ v k +ℤ (w (b2 cs i) *ℤ ago v k 1 +ℤ (w (minus (a1 cs i)) *ℤ t k +ℤ w (minus
          (a2 cs i)) *ℤ ago t k 1))
      first_holds k l =
          let passed : ℤ = before x k (n + (2 * i + 1)) in
          meet k (n + 2 * i) l (omega (arith, h))
          ∙ first_row i k h
          ∙ ap₂ (λ c y. c *ℤ passed +ℤ y) (one_weighs q g)
          (state_adds s w x u k (2 * i) i (b1 cs i) (entry K (2 * i) i (minus (a1 cs i)) ∷ []))
          ∙ first_sum (pos (q * g) *ℤ passed) (w (b1 cs i) *ℤ v k) (w (minus (a1 cs i)) *ℤ t k)
          (w (b2 cs i) *ℤ ago v k 1) (w (minus (a2 cs i)) *ℤ ago t k 1) (read_second k l)

      read_first : (k : ℕ) → k ≤ last →
          pos (q * g) *ℤ before x k (n + 2 * i)
          ≡ w (b1 cs i) *ℤ ago v k 1
          +ℤ (w (b2 cs i) *ℤ ago v k 2 +ℤ (w (minus (a1 cs i)) *ℤ ago t k 1 +ℤ w (minus (a2 cs i)) *ℤ ago t k 2))
      read_first zero l = all_nothing_yet (q * g) (w (b1 cs i)) (w (b2 cs i)) (w (minus (a1 cs i)))
          (w (minus (a2 cs i)))
      read_first (suc k) l = first_holds k (omega arith)

      section_meets : (k : ℕ) → k ≤ last → MeetsAt w (q * g) (numerator_of cs i) (denominator_of cs i) v t k
      section_meets k l =
          let passed : ℤ = before x k (n + 2 * i) in
          meet k i l (omega (arith, h))
          ∙ variable_row i k h
          ∙ taken_adds s w x u k i (b0 cs i) (entry M i (2 * i) one_fraction ∷ [])
          ∙ ap (λ c. w (b0 cs i) *ℤ v k +ℤ (c *ℤ passed +ℤ pos 0)) (one_weighs q g)
          ∙ section_sum (w (b0 cs i) *ℤ v k) (pos (q * g) *ℤ passed) (w (b1 cs i) *ℤ ago v k 1)
          (w (b2 cs i) *ℤ ago v k 2) (w (minus (a1 cs i)) *ℤ ago t k 1) (w (minus (a2 cs i)) *ℤ ago t k 2)
          (read_first k l)
          ∙ sym (ap₂ (λ b a. weigh w v k 0 b +ℤ weigh w t k 1 a) (numerator_is cs fits i h) (fed_back_is cs fits i h))

    sections_meet : MeetSections cs n w (q * g) last x u
    sections_meet i k h l = section_meets i h k l

    output_is : (k r : ℕ) → k ≤ last → n + 2 * n + 0 ≡ r → x k r ≡ x k (n - 1)
    output_is k r h same =
        cancelled (q * g) (x k r) (x k (n - 1)) positive
        (meet k r h (omega (arith, same)) ∙ output_row k r same ∙ alone q g (x k (n - 1)))

  agrees : Agrees (cascade_df2t_form cs) (sos_equations cs)
  agrees =
      let counts = count_fits cs fits in
      let some = counts.some in
      record {
        inputs = refl;
        outputs = refl;
        inside = λ o h. (let first : o ≡ 0 = omega (arith, h) in rw first (omega (arith, some)));
        suits = λ q d. equations_suit q cs fits (suits q d);
        same = λ q g last x y u positive meet theirs o k h l.
            let first : o ≡ 0 = omega (arith, h) in
            rw first (output_is q g last x u positive meet k (n + 2 * n + 0) l refl
            ∙ sections_same cs n (weight q g) (q * g) last x y u positive (sections_meet q g last x u positive meet)
            (equations_meet_sections cs q g last y u theirs) (n - 1) (omega (arith, some)) k l);
      }

  pub outputs_agree : HasOutputs (cascade_df2t_form cs) (sos_equations cs)
  outputs_agree = has_outputs_of (cascade_df2t_form cs) (sos_equations cs) (df2t_fits cs fits)
      (equations_fit cs fits) agrees

pub df2t_has_outputs : (cs : List Fraction) → SectionsFit cs → HasOutputs (cascade_df2t_form cs) (sos_equations cs)
df2t_has_outputs cs fits = outputs_agree cs fits
