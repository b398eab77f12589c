-- The form of a state space puts out what its equations put out: row by row both are the same sums, so they are equal
-- moment by moment.
use Rattle.std.proofs.Common.{◌≡◌, ◌⊎◌, ℕ, zero, suc, ◌+◌, ◌*◌, ◌<◌, ◌≤◌, true, inl, inr, List, ◌++◌, length}
use Rattle.std.proofs.Common.{take, drop, All, slice_index_or, refl, arith, sym, ap, ap₂, subst, ◌∙◌}
use Rattle.std.proofs.Math.IntN.{ℤ, pos, ◌+ℤ◌, ◌*ℤ◌}
use Rattle.std.proofs.lemmas.Int.{ints}
use Rattle.std.proofs.lemmas.List.{drop-drop}
use Rattle.std.proofs.lemmas.List.Elements.{All-append, All-cons, All-nil}
use Rattle.fx_math.specs.Unroll.{before}
use Rattle.fx_nums.specs.Fraction.{Fraction, IsWholeOver}
use Rattle.fx_eqs.specs.Fits.{EquationsFit}
use Rattle.fx_eqs.specs.Textbook.{matrix_rows, over_sources, ss_terms, up_from}
use Rattle.fx_eqs.specs.TextbookRuns.{matrix_row}
use Rattle.fx_eqs.specs.declared.term.Source.TheVariants.{Row, In}
use Rattle.fx_eqs.specs.declared.term.Term.{Term}
use Rattle.fx_eqs.proofs.Matrices.{ss_has_no_fault}
use Rattle.fx_net.specs.Net.{plain}
use Rattle.fx_net.specs.Run.{IsDenominator}
use Rattle.fx_sif.specs.Entries.{across}
use Rattle.fx_sif.specs.Implicit.{rows}
use Rattle.fx_sif.specs.Rows.{is_read, on_the_right}
use Rattle.fx_sif.specs.SameOutputs.{net_alone, HasOutputs}
use Rattle.fx_sif.specs.declared.parts.Block.{Block}
use Rattle.fx_sif.specs.declared.parts.Block.TheVariants.{P, Q, R, S}
use Rattle.fx_sif.specs.declared.parts.Entry.{Entry}
use Rattle.fx_sif.specs.declared.parts.Sizes.{Sizes}
use Rattle.fx_sif.proofs.Agreement.{Agrees, has_outputs_of}
use Rattle.fx_sif.proofs.Denominators.{IsSuited, Suits, across_suits, all_of_both, all_of_rows, entries_suited}
use Rattle.fx_sif.proofs.Earlier.{ago}
use Rattle.fx_sif.proofs.EntriesOfRow.{InRow, across_in}
use Rattle.fx_sif.proofs.EquationsAtScale.{EquationsMeet}
use Rattle.fx_sif.proofs.LagSums.{TermsSuit, column_sum, column_sum-same, kept_whole, lag_sum, lag_sum-append}
use Rattle.fx_sif.proofs.LagSums.{lag_sum-back, lag_sum-front, lag_sum-kept, lag_sum-other_sources}
use Rattle.fx_sif.proofs.LagSums.{lag_sum-over_sources, sources_suit}
use Rattle.fx_sif.proofs.OneScale.{RowsMeet, cancelled, no_weight, weight}
use Rattle.fx_eqs.proofs.SystemsFit.{system_fits}
use Rattle.fx_sif.proofs.RowSums.{adds, adds_both, adds_its_row, adds_no_row, all_across}
use Rattle.fx_space.specs.Matrices.{SpaceFits, matrix_a, matrix_b, matrix_c, matrix_d}
use Rattle.fx_space.specs.Space.{block_of, space_entries, space_equations, space_form}
use Rattle.fx_space.proofs.NeverRefused.{row_short, space_fits}

-- ---- rows of the equations

-- what a row has: coefficients over the states of the moment before, and over the inputs
abbrev pair_of : ℕ → ℕ → ℕ → List Fraction → List Fraction → List Term
pair_of row n m x u = over_sources row (λ j. Row j) 1 0 (take n x) ++ over_sources row (λ j. In j) 0 0 (take m u)

module _ (w : Fraction → ℤ) (y v : ℕ → ℕ → ℤ) (k i : ℕ) where
  pair_sum : (n m : ℕ) (x u : List Fraction) →
      lag_sum w y v k i (pair_of i n m x u)
      ≡ column_sum w (λ j. ago (λ k. y k j) k 1) 0 (take n x) +ℤ column_sum w (λ j. v k j) 0 (take m u)
  pair_sum n m x u =
      lag_sum-append w y v k i (over_sources i (λ j. Row j) 1 0 (take n x)) (over_sources i (λ j. In j) 0 0 (take m u))
      ∙ ap₂ (λ a b. a +ℤ b) (lag_sum-over_sources w y v k i (λ j. Row j) 1 0 (take n x))
      (lag_sum-over_sources w y v k i (λ j. In j) 0 0 (take m u))

  other_pair : (row n m : ℕ) (x u : List Fraction) → (row ≡ i → ⊥) → lag_sum w y v k i (pair_of row n m x u) ≡ pos 0
  other_pair row n m x u other =
      lag_sum-front w y v k i (over_sources row (λ j. Row j) 1 0 (take n x))
      (over_sources row (λ j. In j) 0 0 (take m u))
      (lag_sum-other_sources w y v k i row (λ j. In j) 0 0 (take m u) other)
      ∙ lag_sum-other_sources w y v k i row (λ j. Row j) 1 0 (take n x) other

  other_rows : (count row n m : ℕ) (x u : List Fraction) → (i < row) ⊎ (row + count ≤ i) →
      lag_sum w y v k i (matrix_rows count row n m x u) ≡ pos 0
  other_rows zero row n m x u apart = refl
  other_rows (suc count) row n m x u apart =
      let rest = matrix_rows count (row + 1) n m (drop n x) (drop m u) in
      lag_sum-front w y v k i (pair_of row n m x u) rest
      (other_rows count (row + 1) n m (drop n x) (drop m u)
      (elim apart [ inl h ↦ inl (omega (arith, h)) | inr h ↦ inr (omega (arith, h)) ]))
      ∙ other_pair row n m x u (λ same. elim apart [ inl h ↦ omega (arith, h, same) | inr h ↦ omega (arith, h, same) ])

  its_row : (count row n m : ℕ) (x u : List Fraction) (j : ℕ) → j < count → row + j ≡ i →
      lag_sum w y v k i (matrix_rows count row n m x u)
      ≡ lag_sum w y v k i (pair_of i n m (drop (j * n) x) (drop (j * m) u))
  its_row zero row n m x u j h same = absurd (omega arith)
  its_row (suc count) row n m x u zero h same =
      let rest = matrix_rows count (row + 1) n m (drop n x) (drop m u) in
      let here : row ≡ i = omega arith in
      let none : (n : ℕ) → 0 ≡ zero * n = λ n. omega arith in
      lag_sum-front w y v k i (pair_of row n m x u) rest
      (other_rows count (row + 1) n m (drop n x) (drop m u) (inl (omega arith)))
      ∙ ap (λ r. lag_sum w y v k i (pair_of r n m x u)) here
      ∙ ap (λ d. lag_sum w y v k i (pair_of i n m (drop d x) u)) (none n)
      ∙ ap (λ d. lag_sum w y v k i (pair_of i n m (drop (zero * n) x) (drop d u))) (none m)
  its_row (suc count) row n m x u (suc j) h same =
      let rest = matrix_rows count (row + 1) n m (drop n x) (drop m u) in
      let first : drop (j * n) (drop n x) ≡ drop (suc j * n) x = drop-drop (j * n) n x
      ∙ ap (λ d. drop d x) (omega arith) in
      let second : drop (j * m) (drop m u) ≡ drop (suc j * m) u = drop-drop (j * m) m u
      ∙ ap (λ d. drop d u) (omega arith) in
      lag_sum-back w y v k i (pair_of row n m x u) rest (other_pair row n m x u (λ e. omega (arith, e, same)))
      ∙ its_row count (row + 1) n m (drop n x) (drop m u) j (omega arith) (omega arith)
      ∙ ap₂ (λ a b. lag_sum w y v k i (pair_of i n m a b)) first second

-- ---- coefficients that suit

rows_suit : (q count row n m : ℕ) (x u : List Fraction) → ((j : ℕ) → j < count → Suits q (matrix_row n x j)) →
    ((j : ℕ) → j < count → Suits q (matrix_row m u j)) → TermsSuit q (matrix_rows count row n m x u)
rows_suit q zero row n m x u of_x of_u = All-nil (λ (t : Term). IsWholeOver q (plain t.coef))
rows_suit q (suc count) row n m x u of_x of_u =
    let T : Term → Type 0 = λ t. IsWholeOver q (plain t.coef) in
    let states = over_sources row (λ j. Row j) 1 0 (take n x) in
    let inputs = over_sources row (λ j. In j) 0 0 (take m u) in
    let none : (n : ℕ) → zero * n ≡ 0 = λ n. omega arith in
    let next : (n j : ℕ) (cs : List Fraction) →
    drop (suc j * n) cs ≡ drop (j * n) (drop n cs) =
    λ n j cs. sym (drop-drop (j * n) n cs ∙ ap (λ d. drop d cs) (omega arith)) in
    All-append T (states ++ inputs) (matrix_rows count (row + 1) n m (drop n x) (drop m u))
    (All-append T states inputs
    (sources_suit q row (λ j. Row j) 1 0 (take n x)
    (subst (λ d. Suits q (take n (drop d x))) (none n) (of_x 0 (omega arith))))
    (sources_suit q row (λ j. In j) 0 0 (take m u)
    (subst (λ d. Suits q (take m (drop d u))) (none m) (of_u 0 (omega arith)))))
    (rows_suit q count (row + 1) n m (drop n x) (drop m u)
    (λ j h. subst (λ cs. Suits q (take n cs)) (next n j x) (of_x (suc j) (omega arith)))
    (λ j h. subst (λ cs. Suits q (take m cs)) (next m j u) (of_u (suc j) (omega arith))))

block_suits : (q : ℕ) (b : Block) (rows columns : ℕ) (cs : List Fraction) →
    All (IsSuited q) (block_of b rows columns cs) →
    ((i j : ℕ) → is_read b i j ≡ true) → ((c : Fraction) → on_the_right b c ≡ c) → (i : ℕ) → i < rows →
    Suits q (matrix_row columns cs i)
block_suits q b rows columns cs all read plus i h =
    across_suits q b i (matrix_row columns cs i) 0 (λ j. read i j) plus
    (all_of_rows (IsSuited q) rows (λ i. across b i 0 (matrix_row columns cs i)) all i h)

-- ---- the outputs of the equations

up_from-at : (n count o : ℕ) → o < count → slice_index_or (up_from n count) o 0 ≡ n + o
up_from-at n zero o h = absurd (omega arith)
up_from-at n (suc count) zero h = let e : n ≡ n + 0 = omega arith in e
up_from-at n (suc count) (suc o) h = up_from-at (n + 1) count o (omega arith) ∙ omega arith

up_from-long : (n count : ℕ) → length (up_from n count) ≡ count
up_from-long n zero = refl
up_from-long n (suc count) = ap suc (up_from-long (n + 1) count)

up_from-below : (n count high : ℕ) → n + count ≤ high → All (λ o. o < high) (up_from n count)
up_from-below n zero high h = All-nil (λ o. o < high)
up_from-below n (suc count) high h =
    All-cons (λ o. o < high) n (up_from (n + 1) count) (omega arith) (up_from-below (n + 1) count high (omega arith))

module _ (s : Sizes) (abcd : List Fraction) (fits : SpaceFits s abcd) where
  abbrev n : ℕ
  n = s.x

  abbrev m : ℕ
  m = s.u

  abbrev p : ℕ
  p = s.y

  abbrev A : List Fraction
  A = matrix_a s abcd

  abbrev B : List Fraction
  B = matrix_b s abcd

  abbrev C : List Fraction
  C = matrix_c s abcd

  abbrev D : List Fraction
  D = matrix_d s abcd

  abbrev of_a : List Entry
  of_a = block_of P n n A

  abbrev of_b : List Entry
  of_b = block_of Q n m B

  abbrev of_c : List Entry
  of_c = block_of R p n C

  abbrev of_d : List Entry
  of_d = block_of S p m D

  equations_fit : EquationsFit (space_equations s abcd)
  equations_fit =
      let long = up_from-long n p in
      let low = fits.outputs_low in
      let high = fits.outputs_high in
      system_fits (n + p) m (ss_terms n m p A B C D) (up_from n p) fits.inputs_low fits.inputs_high
      (omega (arith, long, low))
      (omega (arith, long, high)) (λ h. up_from-below n p (n + p) (omega arith))
      (ss_has_no_fault n m p A B C D fits.states fits.inputs_high fits.outputs_low fits.outputs_high)

  suited : (q : ℕ) → IsDenominator (net_alone (space_form s abcd)) q →
      All (λ (t : Term). IsWholeOver q t.coef) (space_equations s abcd).terms
  suited q d =
      let T = IsSuited q in
      let all = all_of_both T (of_a ++ of_b ++ of_c) of_d
      (entries_suited (space_form s abcd) (space_fits s abcd fits) q d) in
      let front = all_of_both T (of_a ++ of_b) of_c all.0 in
      let first = all_of_both T of_a of_b front.0 in
      kept_whole q (ss_terms n m p A B C D)
      (All-append (λ (t : Term). IsWholeOver q (plain t.coef)) (matrix_rows n 0 n m A B) (matrix_rows p n n m C D)
      (rows_suit q n 0 n m A B (block_suits q P n n A first.0 (λ i j. refl) (λ c. refl))
      (block_suits q Q n m B first.1 (λ i j. refl) (λ c. refl)))
      (rows_suit q p n n m C D (block_suits q R p n C front.1 (λ i j. refl) (λ c. refl))
      (block_suits q S p m D all.1 (λ i j. refl) (λ c. refl))))

  module _ (q g last : ℕ) (x y u : ℕ → ℕ → ℤ) (positive : 0 < q * g) (meet : RowsMeet (space_form s abcd) q g last x u)
      (theirs : EquationsMeet (space_equations s abcd) q g last y u) where
    abbrev w : Fraction → ℤ
    w = weight q g

    -- states of the moment before, and inputs
    abbrev sums : (ℕ → ℕ → ℤ) → ℕ → List Fraction → List Fraction → ℤ
    sums z k xs us = column_sum w (λ j. ago (λ k. z k j) k 1) 0 xs +ℤ column_sum w (λ j. u k j) 0 us

    -- ---- the equations

    of_terms : (k i : ℕ) → lag_sum w y u k i (space_equations s abcd).terms ≡ lag_sum w y u k i (ss_terms n m p A B C D)
    of_terms k i = lag_sum-kept w y u k i (λ c none. no_weight q g c none) (ss_terms n m p A B C D)

    state_equation : (k i : ℕ) → k ≤ last → i < n →
        pos (q * g) *ℤ y k i ≡ sums y k (matrix_row n A i) (matrix_row m B i)
    state_equation k i h l =
        theirs k i h (omega arith)
        ∙ of_terms k i
        ∙ lag_sum-front w y u k i (matrix_rows n 0 n m A B) (matrix_rows p n n m C D)
        (other_rows w y u k i p n n m C D (inl l))
        ∙ its_row w y u k i n 0 n m A B i l (omega arith)
        ∙ pair_sum w y u k i n m (drop (i * n) A) (drop (i * m) B)

    output_equation : (k o : ℕ) → k ≤ last → o < p →
        pos (q * g) *ℤ y k (n + o) ≡ sums y k (matrix_row n C o) (matrix_row m D o)
    output_equation k o h l =
        theirs k (n + o) h (omega arith)
        ∙ of_terms k (n + o)
        ∙ lag_sum-back w y u k (n + o) (matrix_rows n 0 n m A B) (matrix_rows p n n m C D)
        (other_rows w y u k (n + o) n 0 n m A B (inr (omega arith)))
        ∙ its_row w y u k (n + o) p n n m C D o l refl
        ∙ pair_sum w y u k (n + o) n m (drop (o * n) C) (drop (o * m) D)

    -- ---- the form

    each_a : (i : ℕ) → i < n → InRow s (s.t + i) (across P i 0 (matrix_row n A i))
    each_a i h = across_in s (s.t + i) P i (matrix_row n A i) 0 (λ j. refl) refl

    each_b : (i : ℕ) → i < n → InRow s (s.t + i) (across Q i 0 (matrix_row m B i))
    each_b i h = across_in s (s.t + i) Q i (matrix_row m B i) 0 (λ j. refl) refl

    each_c : (i : ℕ) → i < p → InRow s (s.t + s.x + i) (across R i 0 (matrix_row n C i))
    each_c i h = across_in s (s.t + s.x + i) R i (matrix_row n C i) 0 (λ j. refl) refl

    each_d : (i : ℕ) → i < p → InRow s (s.t + s.x + i) (across S i 0 (matrix_row m D i))
    each_d i h = across_in s (s.t + s.x + i) S i (matrix_row m D i) 0 (λ j. refl) refl

    none_first : (a b : ℤ) → a ≡ pos 0 → a +ℤ b ≡ b
    none_first a b e = rw e (omega (arith, ints))

    none_behind : (a b : ℤ) → b ≡ pos 0 → a +ℤ b ≡ a
    none_behind a b e = rw e (omega (arith, ints))

    -- what row r has of the states' blocks and of the outputs'
    four_parts : (k r : ℕ) →
        adds s w x u k r (space_entries s abcd)
        ≡ ((adds s w x u k r of_a +ℤ adds s w x u k r of_b) +ℤ adds s w x u k r of_c) +ℤ adds s w x u k r of_d
    four_parts k r =
        adds_both s w x u k r (of_a ++ of_b ++ of_c) of_d
        ∙ ap (λ z. z +ℤ adds s w x u k r of_d)
        (adds_both s w x u k r (of_a ++ of_b) of_c
        ∙ ap (λ z. z +ℤ adds s w x u k r of_c) (adds_both s w x u k r of_a of_b))

    state_read : (k j : ℕ) → before x k (s.t + j) ≡ ago (λ k. x k j) k 1
    state_read zero j = refl
    state_read (suc k) j = let no_variable = fits.variables in let e : s.t + j ≡ j = omega (arith, no_variable) in
        ap (x k) e

    over_states : (k : ℕ) (cs : List Fraction) →
        column_sum w (λ j. before x k (s.t + j)) 0 cs ≡ column_sum w (λ j. ago (λ k. x k j) k 1) 0 cs
    over_states k cs = column_sum-same w (λ j. before x k (s.t + j)) (λ j. ago (λ k. x k j) k 1) (0 + length cs) 0 cs
        (omega arith) (λ j h. state_read k j)

    state_form : (k i : ℕ) → k ≤ last → i < n →
        pos (q * g) *ℤ x k (s.t + i) ≡ sums x k (matrix_row n A i) (matrix_row m B i)
    state_form k i h l =
        let r : ℕ = s.t + i in
        let no_c : adds s w x u k r of_c
        ≡ pos 0 = adds_no_row s w x u k (s.t + s.x) p r (λ i. across R i 0 (matrix_row n C i)) each_c
        (λ i b same. omega (arith, same, l)) in
        let no_d : adds s w x u k r of_d
        ≡ pos 0 = adds_no_row s w x u k (s.t + s.x) p r (λ i. across S i 0 (matrix_row m D i)) each_d
        (λ i b same. omega (arith, same, l)) in
        meet k r h (omega (arith, l))
        ∙ four_parts k r
        ∙ none_behind ((adds s w x u k r of_a +ℤ adds s w x u k r of_b) +ℤ adds s w x u k r of_c)
        (adds s w x u k r of_d) no_d
        ∙ none_behind (adds s w x u k r of_a +ℤ adds s w x u k r of_b) (adds s w x u k r of_c) no_c
        ∙ ap₂ (λ a b. a +ℤ b)
        (adds_its_row s w x u k s.t n (λ i. across P i 0 (matrix_row n A i)) each_a i r l refl
        ∙ all_across s w x u k P i 0 (matrix_row n A i) (λ c. refl)
        ∙ over_states k (matrix_row n A i))
        (adds_its_row s w x u k s.t n (λ i. across Q i 0 (matrix_row m B i)) each_b i r l refl
        ∙ all_across s w x u k Q i 0 (matrix_row m B i) (λ c. refl))

    output_form : (k o : ℕ) → k ≤ last → o < p →
        pos (q * g) *ℤ x k (s.t + s.x + o) ≡ sums x k (matrix_row n C o) (matrix_row m D o)
    output_form k o h l =
        let r : ℕ = s.t + s.x + o in
        let no_a : adds s w x u k r of_a
        ≡ pos 0 = adds_no_row s w x u k s.t n r (λ i. across P i 0 (matrix_row n A i)) each_a
        (λ i b same. omega (arith, same, b)) in
        let no_b : adds s w x u k r of_b
        ≡ pos 0 = adds_no_row s w x u k s.t n r (λ i. across Q i 0 (matrix_row m B i)) each_b
        (λ i b same. omega (arith, same, b)) in
        meet k r h (omega (arith, l))
        ∙ four_parts k r
        ∙ ap (λ z. z +ℤ adds s w x u k r of_d)
        (ap (λ z. z +ℤ adds s w x u k r of_c)
        (none_first (adds s w x u k r of_a) (adds s w x u k r of_b) no_a ∙ no_b)
        ∙ none_first (pos 0) (adds s w x u k r of_c) refl)
        ∙ ap₂ (λ a b. a +ℤ b)
        (adds_its_row s w x u k (s.t + s.x) p (λ i. across R i 0 (matrix_row n C i)) each_c o r l refl
        ∙ all_across s w x u k R o 0 (matrix_row n C o) (λ c. refl)
        ∙ over_states k (matrix_row n C o))
        (adds_its_row s w x u k (s.t + s.x) p (λ i. across S i 0 (matrix_row m D i)) each_d o r l refl
        ∙ all_across s w x u k S o 0 (matrix_row m D o) (λ c. refl))

    -- ---- both

    -- what is equal one moment before gives equal sums
    same_sums : (k : ℕ) (xs us : List Fraction) → length xs ≤ n →
        ((j : ℕ) → j < n → ago (λ k. x k j) k 1 ≡ ago (λ k. y k j) k 1) → sums x k xs us ≡ sums y k xs us
    same_sums k xs us short same =
        ap (λ a. a +ℤ column_sum w (λ j. u k j) 0 us)
        (column_sum-same w (λ j. ago (λ k. x k j) k 1) (λ j. ago (λ k. y k j) k 1) n 0 xs (omega (arith, short)) same)

    state_step : (k i : ℕ) → k ≤ last → i < n → ((j : ℕ) → j < n → ago (λ k. x k j) k 1 ≡ ago (λ k. y k j) k 1) →
        x k i ≡ y k i
    state_step k i h l before_same =
        let no_variable = fits.variables in
        let place : i ≡ s.t + i = omega (arith, no_variable) in
        cancelled (q * g) (x k i) (y k i) positive
        (ap (λ r. pos (q * g) *ℤ x k r) place
        ∙ state_form k i h l
        ∙ same_sums k (matrix_row n A i) (matrix_row m B i) (row_short n i A) before_same
        ∙ sym (state_equation k i h l))

    states_same : (k i : ℕ) → k ≤ last → i < n → x k i ≡ y k i
    states_same zero i h l = state_step zero i h l (λ j b. refl)
    states_same (suc k) i h l = state_step (suc k) i h l (λ j b. states_same k j (omega arith) b)

    states_before : (k j : ℕ) → k ≤ last → j < n → ago (λ k. x k j) k 1 ≡ ago (λ k. y k j) k 1
    states_before zero j h l = refl
    states_before (suc k) j h l = states_same k j (omega arith) l

    outputs_same : (k o : ℕ) → k ≤ last → o < p → x k (s.t + s.x + o) ≡ y k (n + o)
    outputs_same k o h l =
        cancelled (q * g) (x k (s.t + s.x + o)) (y k (n + o)) positive
        (output_form k o h l
        ∙ same_sums k (matrix_row n C o) (matrix_row m D o) (row_short n o C) (λ j b. states_before k j h b)
        ∙ sym (output_equation k o h l))

  agrees : Agrees (space_form s abcd) (space_equations s abcd)
  agrees = record {
    inputs = refl;
    outputs = sym (up_from-long n p);
    inside = λ o h. (let at = up_from-at n p o h in omega (arith, at, h));
    suits = suited;
    same = λ q g last x y u positive meet theirs o k h l.
        outputs_same q g last x y u positive meet theirs k o l h ∙ ap (y k) (sym (up_from-at n p o h));
  }

  pub outputs_agree : HasOutputs (space_form s abcd) (space_equations s abcd)
  outputs_agree = has_outputs_of (space_form s abcd) (space_equations s abcd)
      (space_fits s abcd fits) equations_fit agrees

pub space_has_outputs : (s : Sizes) (abcd : List Fraction) → SpaceFits s abcd →
    HasOutputs (space_form s abcd) (space_equations s abcd)
space_has_outputs s abcd fits = outputs_agree s abcd fits
