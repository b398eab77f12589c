-- The second direct form transposed puts out what its equations put out: each state holds the sum of what is still to
-- be
-- put out, from its place in the lists on.
use Rattle.std.proofs.Common.{◌≡◌, ℕ, zero, suc, ◌+◌, ◌*◌, ◌<◌, ◌≤◌, ◌⊎◌, inl, inr, Bool, true, false, cond}
use Rattle.std.proofs.Common.{nat_lt, max, List, [], ◌∷◌, ◌++◌, length, length-drop, drop, All, refl, arith}
use Rattle.std.proofs.Common.{sym, ap, ap₂, subst, ◌∙◌}
use Rattle.std.proofs.Math.IntN.{ℤ, pos, ◌+ℤ◌, ◌*ℤ◌}
use Rattle.std.proofs.lemmas.Bool.{ltb-true, ltb-false}
use Rattle.std.proofs.lemmas.Int.{ints}
use Rattle.std.proofs.lemmas.List.{length-map}
use Rattle.std.proofs.lemmas.List.Elements.{All-head, All-tail}
use Rattle.fx_math.specs.Unroll.{before}
use Rattle.fx_nums.specs.Fraction.{Fraction, IsWholeOver, one_fraction, minus, zero_fraction}
use Rattle.fx_eqs.specs.Textbook.{tf_equations}
use Rattle.fx_net.specs.Net.{plain}
use Rattle.fx_net.specs.Run.{IsDenominator}
use Rattle.fx_eqs.specs.declared.limits.TheConstants.{COEFFICIENTS}
use Rattle.fx_sif.specs.Fits.{ImplicitFits}
use Rattle.fx_sif.specs.Implicit.{Implicit, single}
use Rattle.fx_sif.specs.SameOutputs.{net_alone, HasOutputs}
use Rattle.fx_sif.specs.declared.parts.Block.TheVariants.{K, L, M, N, P, Q}
use Rattle.fx_sif.specs.declared.parts.Entry.{Entry}
use Rattle.fx_sif.specs.declared.parts.Sizes.{Sizes}
use Rattle.fx_sif.specs.Entries.{coefficient, entry}
use Rattle.fx_direct.specs.Forms.{order, df2t_row, first_state, df2t_form}
use Rattle.fx_sif.proofs.Earlier.{weigh}
use Rattle.fx_sif.proofs.Delays.{one_weighs, alone}
use Rattle.fx_sif.proofs.OneScale.{weight, RowsMeet, cancelled, no_weight}
use Rattle.fx_direct.proofs.Outputs.{has_outputs}
use Rattle.fx_sif.proofs.RowSums.{adds, all_add, adds_first, adds_second, adds_here, adds_none, adds_its_row}
use Rattle.fx_sif.proofs.RowSums.{adds_no_row}
use Rattle.fx_direct.proofs.NeverRefused.{Greater, greater_order, single_fits, df2t_ascends}
use Rattle.fx_sif.proofs.EntriesOfRow.{InRow}
use Rattle.fx_sif.proofs.Denominators.{IsSuited, all_of_both, all_of_rows, entries_suited, Suits, first_suits}
use Rattle.fx_sif.proofs.Denominators.{suits_by_place}
use Rattle.fx_sif.proofs.EarlierSums.{weigh_later, weigh_start, coefficient_next, weigh_from, weigh_past}
use Rattle.fx_math.specs.Sums.{joined}
use Rattle.fx_sif.proofs.Recursion.{fed_back, MeetsAt, meets_too, first_lag, fed_at}

-- ---- sums of a state

-- with the state behind it, and without
state_sum : (p y c u d t up down up1 down1 : ℤ) → p *ℤ y ≡ up1 +ℤ down1 → up ≡ c *ℤ u +ℤ up1 → down ≡ d *ℤ t +ℤ down1 →
    p *ℤ y +ℤ (c *ℤ u +ℤ (d *ℤ t +ℤ pos 0)) ≡ up +ℤ down
state_sum p y c u d t up down up1 down1 h e f = rw (e, f) (omega (arith, ints, h))

last_sum : (c u d t up down : ℤ) → up ≡ c *ℤ u +ℤ pos 0 → down ≡ d *ℤ t +ℤ pos 0 →
    c *ℤ u +ℤ (d *ℤ t +ℤ pos 0) ≡ up +ℤ down
last_sum c u d t up down e f = rw (e, f) (omega (arith, ints))

first_sum : (p y c u up down all : ℤ) → p *ℤ y ≡ up +ℤ down → c *ℤ u +ℤ up ≡ all →
    c *ℤ u +ℤ (p *ℤ y +ℤ pos 0) ≡ all +ℤ down
first_sum p y c u up down all h e = rw (sym e) (omega (arith, ints, h))

only_sum : (c u up down all : ℤ) → up ≡ pos 0 → down ≡ pos 0 → c *ℤ u +ℤ up ≡ all → c *ℤ u +ℤ pos 0 ≡ all +ℤ down
only_sum c u up down all e f h = rw (sym h) (omega (arith, ints, e, f))

-- ---- the rows

-- n states, at least as many as either list wants
abbrev form_with : List Fraction → List Fraction → ℕ → Implicit
form_with b a n = record {
  sizes = single 1 n;
  entries = (entry N 0 0 (coefficient b 0) ∷ first_state n) ++ joined n (df2t_row b a n)
      ++ entry L 0 0 one_fraction ∷ [];
}

module _ (b a : List Fraction) (n : ℕ) (low : 1 ≤ length b) (wide : Greater n (order b) (order a))
    (fits : ImplicitFits (form_with b a n)) where
  abbrev s : Sizes
  s = single 1 n

  abbrev variable : List Entry
  variable = entry N 0 0 (coefficient b 0) ∷ first_state n

  abbrev states : List Entry
  states = joined n (df2t_row b a n)

  abbrev output : List Entry
  output = entry L 0 0 one_fraction ∷ []

  in_variable : InRow s 0 variable
  in_variable = (refl, refl, by_test (nat_lt 0 n))
    where
      by_test : (t : Bool) → InRow s 0 (cond t (entry M 0 0 one_fraction ∷ []) [])
      by_test true = (refl, refl, tt)
      by_test false = tt

  each_state : (i : ℕ) → i < n → InRow s (1 + i) (df2t_row b a n i)
  each_state i h = by_test (nat_lt (i + 1) n)
    where
      rest : List Entry
      rest = entry Q i 0 (coefficient b (i + 1)) ∷ entry K i 0 (minus (coefficient a (i + 1))) ∷ []

      by_test : (t : Bool) → InRow s (1 + i) (cond t (entry P i (i + 1) one_fraction ∷ []) [] ++ rest)
      by_test true = (refl, refl, (refl, refl, (refl, refl, tt)))
      by_test false = (refl, refl, (refl, refl, tt))

  in_output : InRow s (1 + n + 0) output
  in_output = (refl, refl, tt)

  suited : (q : ℕ) → IsDenominator (net_alone (form_with b a n)) q → All (IsSuited q) (variable ++ states)
  suited q d = (all_of_both (IsSuited q) (variable ++ states) output (entries_suited (form_with b a n) fits q d)).0

  -- both coefficients of a state
  state_suits : (q i : ℕ) → IsDenominator (net_alone (form_with b a n)) q → i < n →
      IsWholeOver q (plain (coefficient b (i + 1))) × IsWholeOver q (plain (minus (coefficient a (i + 1))))
  state_suits q i d h = by_test (nat_lt (i + 1) n)
      (all_of_rows (IsSuited q) n (df2t_row b a n) (all_of_both (IsSuited q) variable states (suited q d)).1 i h)
    where
      up : Entry
      up = entry Q i 0 (coefficient b (i + 1))

      down : Entry
      down = entry K i 0 (minus (coefficient a (i + 1)))

      both_suit : All (IsSuited q) (up ∷ down ∷ []) →
          IsWholeOver q (plain (coefficient b (i + 1))) × IsWholeOver q (plain (minus (coefficient a (i + 1))))
      both_suit p = (
        All-head (IsSuited q) up (down ∷ []) p refl,
        All-head (IsSuited q) down [] (All-tail
            (IsSuited q) up (down ∷ []) p) refl,
      )

      by_test : (t : Bool) → All (IsSuited q) (cond t (entry P i (i + 1) one_fraction ∷ []) [] ++ up ∷ down ∷ []) →
          IsWholeOver q (plain (coefficient b (i + 1))) × IsWholeOver q (plain (minus (coefficient a (i + 1))))
      by_test true p = both_suit (All-tail (IsSuited q) (entry P i (i + 1) one_fraction) (up ∷ down ∷ []) p)
      by_test false p = both_suit p

  numerator : (q : ℕ) → IsDenominator (net_alone (form_with b a n)) q → Suits q b
  numerator q d =
      let high : order b ≤ n = wide.left in
      first_suits q b low
      (All-head (IsSuited q) (entry N 0 0 (coefficient b 0)) (first_state n)
      (all_of_both (IsSuited q) variable states (suited q d)).0 refl)
      (suits_by_place q (drop 1 b)
      (λ i l. subst (λ c. IsWholeOver q (plain c)) (sym (coefficient_next b i))
      (state_suits q i d (omega (arith, l, high, length-drop 1 b))).0))

  denominator : (q : ℕ) → IsDenominator (net_alone (form_with b a n)) q → Suits q (fed_back a)
  denominator q d =
      let high : order a ≤ n = wide.right in
      suits_by_place q (fed_back a)
      (λ i l. subst (λ c. IsWholeOver q (plain c)) (sym (fed_at a i))
      (state_suits q i d (omega (arith, l, high, length-map (drop 1 a) minus, length-drop 1 a))).1)

  module _ (q g last : ℕ) (x u : ℕ → ℕ → ℤ) (positive : 0 < q * g)
      (meet : RowsMeet (form_with b a n) q g last x u) where
    abbrev w : Fraction → ℤ
    w = weight q g

    abbrev v : ℕ → ℤ
    v k = u k 0

    abbrev t : ℕ → ℤ
    t k = x k 0

    abbrev bs : List Fraction
    bs = drop 1 b

    abbrev fed : List Fraction
    fed = fed_back a

    no_states : (k r : ℕ) → (r < 1) ⊎ (1 + n ≤ r) → adds s w x u k r states ≡ pos 0
    no_states k r apart = adds_no_row s w x u k 1 n r (df2t_row b a n) each_state
        (λ i l same. elim apart [ inl h ↦ omega (arith, h, l, same) | inr h ↦ omega (arith, h, l, same) ])

    no_output : (k r : ℕ) → r < 1 + n → adds s w x u k r output ≡ pos 0
    no_output k r h = adds_none s w x u k (1 + n + 0) r output (λ same. omega (arith, h, same)) in_output

    no_variable : (k r : ℕ) → 0 < r → adds s w x u k r variable ≡ pos 0
    no_variable k r h = adds_none s w x u k 0 r variable (λ same. omega (arith, h, same)) in_variable

    state_row : (i k : ℕ) → i < n →
        adds s w x u k (1 + i) (form_with b a n).entries ≡ all_add s w x u k (df2t_row b a n i)
    state_row i k h =
        adds_first s w x u k (1 + i) (variable ++ states) output (no_output k (1 + i) (omega arith))
        ∙ adds_second s w x u k (1 + i) variable states (no_variable k (1 + i) (omega arith))
        ∙ adds_its_row s w x u k 1 n (df2t_row b a n) each_state i (1 + i) h refl

    -- what a state adds to a moment where it is read a moment later
    abbrev Holds : ℕ → Type 0
    Holds i = (k : ℕ) → k ≤ last → pos (q * g) *ℤ x k (1 + i) ≡ weigh w v k 0 (drop i bs) +ℤ weigh w t k 0 (drop i fed)

    read_later : (i : ℕ) → Holds i → (k : ℕ) → k ≤ last →
        w one_fraction *ℤ before x k (1 + i) ≡ weigh w v k 1 (drop i bs) +ℤ weigh w t k 1 (drop i fed)
    read_later i holds zero h = rw (weigh_start w v (drop i bs) 0, weigh_start w t (drop i fed) 0) (omega (arith, ints))
    read_later i holds (suc k) h =
        ap (λ c. c *ℤ x k (1 + i)) (one_weighs q g) ∙ holds k (omega arith)
        ∙ ap₂ (λ y z. y +ℤ z) (sym (weigh_later w v k (drop i bs) 0)) (sym (weigh_later w t k (drop i fed) 0))

    none : w zero_fraction ≡ pos 0
    none = no_weight q g zero_fraction refl

    up_from : (k i : ℕ) → weigh w v k 0 (drop i bs)
        ≡ w (coefficient b (i + 1)) *ℤ v k +ℤ weigh w v k 1 (drop (i + 1) bs)
    up_from k i = weigh_from w none v k 0 bs i
        ∙ ap (λ c. w c *ℤ v k +ℤ weigh w v k 1 (drop (i + 1) bs)) (coefficient_next b i)

    down_from : (k i : ℕ) → weigh w t k 0 (drop i fed)
        ≡ w (minus (coefficient a (i + 1))) *ℤ t k +ℤ weigh w t k 1 (drop (i + 1) fed)
    down_from k i = weigh_from w none t k 0 fed i
        ∙ ap (λ c. w c *ℤ t k +ℤ weigh w t k 1 (drop (i + 1) fed)) (fed_at a i)

    -- the lists end where the states do
    up_past : (k l i : ℕ) → n ≤ i → weigh w v k l (drop i bs) ≡ pos 0
    up_past k l i h = let high : order b ≤ n = wide.left in
        weigh_past w v k l i bs (omega (arith, h, high, length-drop 1 b))

    down_past : (k l i : ℕ) → n ≤ i → weigh w t k l (drop i fed) ≡ pos 0
    down_past k l i h = let high : order a ≤ n = wide.right in
        weigh_past w t k l i fed (omega (arith, h, high, length-map (drop 1 a) minus, length-drop 1 a))

    one_state : (i : ℕ) → i < n → (i + 1 < n → Holds (i + 1)) → Holds i
    one_state i h next k l = meet k (1 + i) l (omega arith) ∙ state_row i k h ∙ by_test (nat_lt (i + 1) n) refl
      where
        up : ℤ
        up = w (coefficient b (i + 1)) *ℤ v k

        down : ℤ
        down = w (minus (coefficient a (i + 1))) *ℤ t k

        rest : List Entry
        rest = entry Q i 0 (coefficient b (i + 1)) ∷ entry K i 0 (minus (coefficient a (i + 1))) ∷ []

        by_test : (c : Bool) → nat_lt (i + 1) n ≡ c →
            all_add s w x u k (cond c (entry P i (i + 1) one_fraction ∷ []) [] ++ rest)
            ≡ weigh w v k 0 (drop i bs) +ℤ weigh w t k 0 (drop i fed)
        by_test true e =
            state_sum (w one_fraction) (before x k (1 + (i + 1))) (w (coefficient b (i + 1))) (v k)
            (w (minus (coefficient a (i + 1)))) (t k)
            (weigh w v k 0 (drop i bs)) (weigh w t k 0 (drop i fed)) (weigh w v k 1 (drop (i + 1) bs))
            (weigh w t k 1 (drop (i + 1) fed))
            (read_later (i + 1) (next (ltb-true (i + 1) n e)) k l) (up_from k i) (down_from k i)
        by_test false e =
            let past : n ≤ i + 1 = ltb-false (i + 1) n e in
            last_sum (w (coefficient b (i + 1))) (v k) (w (minus (coefficient a (i + 1)))) (t k)
            (weigh w v k 0 (drop i bs)) (weigh w t k 0 (drop i fed))
            (up_from k i ∙ ap (λ y. up +ℤ y) (up_past k 1 (i + 1) past))
            (down_from k i ∙ ap (λ y. down +ℤ y) (down_past k 1 (i + 1) past))

    -- from the last state to the first
    all_states : (m i : ℕ) → i + m ≡ n → i < n → Holds i
    all_states zero i e h = absurd (omega arith)
    all_states (suc m) i e h = one_state i h (λ l. all_states m (i + 1) (omega arith) l)

    variable_meets : (k : ℕ) → k ≤ last → MeetsAt w (q * g) b a v t k
    variable_meets k h =
        meet k 0 h (omega arith)
        ∙ adds_first s w x u k 0 (variable ++ states) output (no_output k 0 (omega arith))
        ∙ adds_first s w x u k 0 variable states (no_states k 0 (inl (omega arith)))
        ∙ adds_here s w x u k 0 variable in_variable
        ∙ by_test (nat_lt 0 n) refl
      where
        by_test : (c : Bool) → nat_lt 0 n ≡ c →
            w (coefficient b 0) *ℤ v k +ℤ all_add s w x u k (cond c (entry M 0 0 one_fraction ∷ []) [])
            ≡ weigh w v k 0 b +ℤ weigh w t k 1 fed
        by_test true e =
            first_sum (w one_fraction) (before x k (1 + 0)) (w (coefficient b 0)) (v k) (weigh w v k 1 bs)
            (weigh w t k 1 fed) (weigh w v k 0 b)
            (read_later 0 (all_states n 0 (omega arith) (ltb-true 0 n e)) k h) (first_lag w v k b low)
        by_test false e =
            let past : n ≤ 0 = ltb-false 0 n e in
            only_sum (w (coefficient b 0)) (v k) (weigh w v k 1 bs) (weigh w t k 1 fed) (weigh w v k 0 b)
            (up_past k 1 0 past) (down_past k 1 0 past) (first_lag w v k b low)

    output_is : (k : ℕ) → k ≤ last → x k (1 + n + 0) ≡ t k
    output_is k h =
        let r : ℕ = 1 + n + 0 in
        cancelled (q * g) (x k r) (t k) positive
        (meet k r h (omega arith)
        ∙ adds_second s w x u k r (variable ++ states) output
        (adds_first s w x u k r variable states (no_states k r (inr (omega arith))) ∙ no_variable k r (omega arith))
        ∙ adds_here s w x u k r output in_output
        ∙ alone q g (t k))

  meets : (q g last : ℕ) (x u : ℕ → ℕ → ℤ) → 0 < q * g → RowsMeet (form_with b a n) q g last x u → (k : ℕ) → k ≤ last →
      MeetsAt (weight q g) (q * g) b a (λ k. u k 0) (λ k. x k (1 + n + 0)) k
  meets q g last x u positive meet k h =
      meets_too (weight q g) (q * g) b a (λ k. u k 0) (λ k. x k 0) (λ k. x k (1 + n + 0)) k
      (λ j l. output_is q g last x u positive meet j (omega arith))
      (variable_meets q g last x u positive meet k h)

  pub df2t_outputs : length b ≤ COEFFICIENTS → length a ≤ COEFFICIENTS → HasOutputs (form_with b a n) (tf_equations b a)
  df2t_outputs short_b short_a =
      has_outputs (form_with b a n) b a short_b short_a fits
      (record { inputs = refl; outputs = refl; numerator = numerator; denominator = denominator; meets = meets })

pub df2t_has_outputs : (b a : List Fraction) → 1 ≤ length b → length b ≤ COEFFICIENTS → length a ≤ COEFFICIENTS →
    HasOutputs (df2t_form b a) (tf_equations b a)
df2t_has_outputs b a low high high_back =
    let n : ℕ = max (order b) (order a) in
    let wide = greater_order b a high high_back in
    let few : n ≤ 12 = wide.high in
    df2t_outputs b a n low wide
    (single_fits 1 n (form_with b a n).entries (df2t_ascends b a n few) (omega arith)) high high_back
