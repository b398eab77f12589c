-- The equations of a lattice meet its rows.
use Rattle.std.proofs.Common.{◌≡◌, inl, inr, ℕ, zero, suc, ◌+◌, ◌-◌, ◌*◌, ◌<◌, ◌≤◌, eqb, List, ◌++◌, length}
use Rattle.std.proofs.Common.{refl, arith, sym, ap, ap₂, ◌∙◌}
use Rattle.std.proofs.Math.IntN.{ℤ, pos, ◌+ℤ◌, ◌*ℤ◌}
use Rattle.std.proofs.lemmas.Bool.{cond-false, cond-true, eq-eqb, ne_eqb}
use Rattle.fx_math.specs.Unroll.{before}
use Rattle.fx_nums.specs.Fraction.{Fraction, minus, one_fraction}
use Rattle.fx_eqs.specs.Textbook.{backward, backward_rows, forward, forward_rows, lattice_equations}
use Rattle.fx_eqs.specs.Textbook.{lattice_terms, over_sources}
use Rattle.fx_eqs.specs.declared.term.Source.TheVariants.{Row, In}
use Rattle.fx_eqs.specs.declared.term.Term.{Term}
use Rattle.fx_sif.specs.Entries.{coefficient}
use Rattle.fx_sif.proofs.Earlier.{ago}
use Rattle.fx_sif.proofs.EquationsAtScale.{EquationsMeet}
use Rattle.fx_sif.proofs.LagSums.{column_sum, lag_sum, lag_sum-back, lag_sum-front, lag_sum-kept}
use Rattle.fx_sif.proofs.LagSums.{lag_sum-other_sources, lag_sum-over_sources, sequence}
use Rattle.fx_sif.proofs.OneScale.{no_weight, weight}
use Rattle.fx_lattice.proofs.EquationSums.{backward_here, backward_none, backward_sum, forward_here}
use Rattle.fx_lattice.proofs.EquationSums.{forward_none, forward_sum}
use Rattle.fx_lattice.proofs.Ladders.{IsLadder, above}

-- ---- what is read

forward_top : (n i : ℕ) → i ≡ n → forward n i ≡ In 0
forward_top n i same = cond-true (eqb i n) (In 0) (Row (n - 1 - i)) (eq-eqb i n same)

forward_row_is : (n i : ℕ) → i < n → forward n i ≡ Row (n - 1 - i)
forward_row_is n i h = cond-false (eqb i n) (In 0) (Row (n - 1 - i)) (ne_eqb i n (λ same. omega (arith, h, same)))

pub backward_row_is : (n i : ℕ) → 1 ≤ n → backward n i ≡ Row (n - 1 + i)
backward_row_is n i h = cond-false (eqb n 0) (In 0) (Row (n - 1 + i)) (ne_eqb n 0 (λ same. omega (arith, h, same)))

ago_before : (y u : ℕ → ℕ → ℤ) (k j : ℕ) → ago (sequence y u (Row j)) k 1 ≡ before y k j
ago_before y u zero j = refl
ago_before y u (suc k) j = refl

read_above : (y u : ℕ → ℕ → ℤ) (k n r : ℕ) → r < n → sequence y u (forward n (n - 1 - r + 1)) k ≡ above y u k r
read_above y u k n zero h = ap (λ from. sequence y u from k) (forward_top n (n - 1 - 0 + 1) (omega arith))
read_above y u k n (suc r) h =
    let i = n - 1 - suc r + 1 in
    let here : n - 1 - i ≡ r = omega arith in
    ap (λ from. sequence y u from k) (forward_row_is n i (omega arith) ∙ ap Row here)

read_back : (y u : ℕ → ℕ → ℤ) (k n i : ℕ) → i < n → ago (sequence y u (backward n i)) k 1 ≡ before y k (n - 1 + i)
read_back y u k n i h = ap (λ from. ago (sequence y u from) k 1) (backward_row_is n i (omega arith))
    ∙ ago_before y u k (n - 1 + i)

-- ---- the rows

module _ (c v : List Fraction) (q g last : ℕ) (y u : ℕ → ℕ →
    ℤ) (meet : EquationsMeet (lattice_equations c v) q g last y u) where
  abbrev n : ℕ
  n = length c

  abbrev w : Fraction → ℤ
  w = weight q g

  abbrev forwards : List Term
  forwards = forward_rows (length c) 0 c

  abbrev backwards : List Term
  backwards = backward_rows (length c) 0 c

  abbrev taps : List Term
  taps = over_sources (2 * length c) (backward (length c)) 0 0 v

  -- with the terms of coefficient 0
  of_row : (k i : ℕ) → k ≤ last → i < 2 * n + 1 → pos (q * g) *ℤ y k i ≡ lag_sum w y u k i (lattice_terms c v)
  of_row k i h l = meet k i h l ∙ lag_sum-kept w y u k i (no_weight q g) (lattice_terms c v)

  no_taps : (k i : ℕ) → i < 2 * n → lag_sum w y u k i taps ≡ pos 0
  no_taps k i h = lag_sum-other_sources w y u k i (2 * n) (backward n) 0 0 v (λ same. omega (arith, h, same))

  of_forward : (k r : ℕ) → k ≤ last → r < n → pos (q * g) *ℤ y k r
      ≡ forward_sum w y u k n (n - 1 - r) (coefficient c (n - 1 - r))
  of_forward k r h l =
      let m = n - 1 - r in
      let here : n - 1 - (0 + m) ≡ r = omega arith in
      let none : 0 + m ≡ m = omega arith in
      of_row k r h (omega arith)
      ∙ lag_sum-front w y u k r (forwards ++ backwards) taps (no_taps k r (omega arith))
      ∙ lag_sum-front w y u k r forwards backwards (backward_none w y u k n 0 r c (inl (omega arith)))
      ∙ ap (λ i. lag_sum w y u k i forwards) (sym here)
      ∙ forward_here w y u k n 0 m c (omega arith) (omega arith)
      ∙ ap (λ i. forward_sum w y u k n i (coefficient c m)) none

  of_backward : (k i : ℕ) → k ≤ last → i < n → pos (q * g) *ℤ y k (n + i) ≡ backward_sum w y u k n i (coefficient c i)
  of_backward k i h l =
      let r = n + i in
      let none : 0 + i ≡ i = omega arith in
      of_row k r h (omega arith)
      ∙ lag_sum-front w y u k r (forwards ++ backwards) taps (no_taps k r (omega arith))
      ∙ lag_sum-back w y u k r forwards backwards (forward_none w y u k n 0 r c (omega arith) (omega arith))
      ∙ ap (λ j. lag_sum w y u k (n + j) backwards) (sym none)
      ∙ backward_here w y u k n 0 i c l
      ∙ ap (λ j. backward_sum w y u k n j (coefficient c i)) none

  pub of_output : (k : ℕ) → k ≤ last → pos (q * g) *ℤ y k (2 * n)
      ≡ column_sum w (λ j. ago (sequence y u (backward n j)) k 0) 0 v
  of_output k h =
      let r = 2 * n in
      of_row k r h (omega arith)
      ∙ lag_sum-back w y u k r (forwards ++ backwards) taps
      (lag_sum-front w y u k r forwards backwards (backward_none w y u k n 0 r c (inr (omega arith)))
      ∙ forward_none w y u k n 0 r c (omega arith) (omega arith))
      ∙ lag_sum-over_sources w y u k r (backward n) 0 0 v

  pub equations_ladder : IsLadder (weight q g) (q * g) last c u y
  equations_ladder = record {
    forward = λ k r h l.
        of_forward k r h l
        ∙ ap₂ (λ a b. w one_fraction *ℤ a +ℤ w (minus (coefficient c (n - 1 - r))) *ℤ b)
        (read_above y u k n r l) (read_back y u k n (n - 1 - r) (omega arith));
    backward = λ k i h l.
        of_backward k i h l
        ∙ ap₂ (λ a b. w (coefficient c i) *ℤ a +ℤ w one_fraction *ℤ b)
        (ap (λ from. sequence y u from k) (forward_row_is n i l)) (read_back y u k n i l);
  }
