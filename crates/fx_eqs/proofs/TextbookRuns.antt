-- The exact runs of the four forms meet what a textbook prints.
use Rattle.std.proofs.Common.{◌≡◌, ◌⊎◌, ℕ, zero, suc, ◌+◌, ◌-◌, ◌*◌, ◌/◌, ◌<◌, ◌≤◌, eqb, List, [], ◌∷◌, ◌++◌}
use Rattle.std.proofs.Common.{length, take, drop, map, All, refl, arith, ap, sym, subst, inl, inr, lit<}
use Rattle.std.proofs.Common.{lit≤, ◌∙◌}
use Rattle.std.proofs.Math.IntN.{ℤ, pos, ◌*ℤ◌}
use Rattle.std.proofs.lemmas.Bool.{cond-false, cond-true, eq-eqb, ne_eqb}
use Rattle.std.proofs.lemmas.Int.{ints}
use Rattle.std.proofs.lemmas.List.{drop-drop}
use Rattle.std.proofs.lemmas.List.Elements.{All-nil, All-cons, All-append, All-weaker}
use Rattle.fx_math.specs.Ratio.{difference_of, product_of, Ratio, SameValue, sum_of}
use Rattle.fx_nums.specs.Fraction.{Fraction, minus, one_fraction, value_of}
use Rattle.fx_eqs.specs.Denominator.{DividesEach}
use Rattle.fx_eqs.specs.Equations.{Equations, kept}
use Rattle.fx_eqs.specs.Fits.{EquationsFit}
use Rattle.fx_eqs.specs.Textbook.{backward, backward_rows, forward, forward_rows, lattice_equations}
use Rattle.fx_eqs.specs.Textbook.{lattice_terms, matrix_rows, over_lags, over_sources, recursion, sections}
use Rattle.fx_eqs.specs.Textbook.{sos_equations, sos_terms, ss_equations, ss_terms, summand, tf_equations}
use Rattle.fx_eqs.specs.Textbook.{tf_terms, up_from}
use Rattle.fx_eqs.specs.TextbookRuns.{CascadeRuns, LatticeRuns, StateSpaceRuns, TransferRuns, denominator_of}
use Rattle.fx_eqs.specs.TextbookRuns.{numerator_of, reflection, section_source, source_values}
use Rattle.fx_eqs.specs.Values.{over_numbers}
use Rattle.fx_eqs.specs.declared.term.Source.{Source}
use Rattle.fx_eqs.specs.declared.term.Source.TheVariants.{Row, In}
use Rattle.fx_eqs.specs.declared.term.Term.{Term}
use Rattle.fx_eqs.proofs.SystemsFit.{system_fits}
use Rattle.fx_eqs.proofs.Lattices.{lattice_has_no_fault}
use Rattle.fx_eqs.proofs.Matrices.{ss_has_no_fault}
use Rattle.fx_eqs.proofs.Recursions.{sos_has_no_fault, tf_has_no_fault}
use Rattle.fx_eqs.proofs.TermValues.{Is, KeptStand, Stands, both_stand, difference_is, minus_term_is}
use Rattle.fx_eqs.proofs.TermValues.{others_add_nothing, over_sources_is, read, recursion_is, row_den}
use Rattle.fx_eqs.proofs.TermValues.{row_meets, sum_is, sum_kept, sum_kept-append, term_is}

-- one row is put out
one_output : (rows o : ℕ) → o < rows → All (λ o. o < rows) (o ∷ [])
one_output rows o h = All-cons (λ o. o < rows) o [] h (All-nil (λ o. o < rows))

-- ---- rows of terms

lags_rows : (row : ℕ) (from : Source) (lag : ℕ) (cs : List Fraction) →
    All (λ (t : Term). t.row ≡ row) (over_lags row from lag cs)
lags_rows row from lag [] = All-nil (λ (t : Term). t.row ≡ row)
lags_rows row from lag (c ∷ cs) =
    All-cons (λ (t : Term). t.row ≡ row) (summand row c from lag) (over_lags row from (lag + 1) cs) refl
    (lags_rows row from (lag + 1) cs)

sources_rows : (row : ℕ) (from : ℕ → Source) (lag j : ℕ) (cs : List Fraction) →
    All (λ (t : Term). t.row ≡ row) (over_sources row from lag j cs)
sources_rows row from lag j [] = All-nil (λ (t : Term). t.row ≡ row)
sources_rows row from lag j (c ∷ cs) =
    All-cons (λ (t : Term). t.row ≡ row) (summand row c (from j) lag) (over_sources row from lag (j + 1) cs)
    refl (sources_rows row from lag (j + 1) cs)

recursion_rows : (row : ℕ) (from : Source) (b a : List Fraction) →
    All (λ (t : Term). t.row ≡ row) (recursion row from b a)
recursion_rows row from b a =
    All-append (λ (t : Term). t.row ≡ row) (over_lags row from 0 b)
    (over_lags row (Row row) 1 (map minus (drop 1 a))) (lags_rows row from 0 b)
    (lags_rows row (Row row) 1 (map minus (drop 1 a)))

abbrev AllRowsIn : ℕ → ℕ → List Term → Type 0
AllRowsIn low high ts = All (λ (t : Term). (low ≤ t.row) × (t.row < high)) ts

rows_in : (low high row : ℕ) (ts : List Term) → low ≤ row → row < high → All (λ (t : Term). t.row ≡ row) ts →
    AllRowsIn low high ts
rows_in low high row ts h l all =
    All-weaker (λ (t : Term). t.row ≡ row) (λ (t : Term). (low ≤ t.row) × (t.row < high)) (λ t e.
    (omega arith, omega arith)) ts all

-- rows before or behind are others
outside : (low high i : ℕ) (ts : List Term) → (i < low) ⊎ (high ≤ i) → AllRowsIn low high ts →
    All (λ (t : Term). t.row ≡ i → ⊥) ts
outside low high i ts (inl before) all =
    All-weaker (λ (t : Term). (low ≤ t.row) × (t.row < high)) (λ (t : Term). t.row ≡ i →
    ⊥) (λ t h. λ e. let l = h.0 in omega arith) ts all
outside low high i ts (inr behind) all =
    All-weaker (λ (t : Term). (low ≤ t.row) × (t.row < high)) (λ (t : Term). t.row ≡ i →
    ⊥) (λ t h. λ e. let l = h.1 in omega arith) ts all

-- ---- transfer function

pub transfer_runs : TransferRuns
transfer_runs b a g u short_b short_a divides k =
    let s = tf_equations b a in
    let fits : EquationsFit s =
    system_fits 1 1 (tf_terms b a) (0 ∷ []) (lit≤ tt) (lit≤ tt) (lit≤ tt) (lit≤ tt) (λ h.
    one_output 1 0 (lit< tt)) (tf_has_no_fault b a short_b short_a) in
    row_meets s g u k 0 (tf_terms b a) refl fits (lit< tt) _
    (recursion_is s g u k 0 b a (In 0) (λ n d h. (fits.terms n d h, divides n d h)))

-- ---- one part of several

module _ (s : Equations) (g : ℕ) (u : ℕ → ℕ → ℤ) (k i : ℕ) where
  -- the terms of row i are these, among all
  record Holds (all part : List Term) : Type 0 where
    stands : KeptStand s g u k i all → KeptStand s g u k i part
    same : KeptStand s g u k i all → sum_kept s g u k i all ≡ sum_kept s g u k i part

  all_hold : (all : List Term) → Holds all all
  all_hold all = record { stands = λ h. h; same = λ h. refl }

  front_holds : (a b part : List Term) → All (λ (t : Term). t.row ≡ i → ⊥) b → Holds a part → Holds (a ++ b) part
  front_holds a b part others holds = record {
    stands = λ h. holds.stands (both_stand s g u k i a b h).0;
    same = λ h. (let e = holds.same (both_stand s g u k i a b h).0 in
        omega (arith, ints, sum_kept-append s g u k i a b, others_add_nothing s g u k i b others, e));
  }

  back_holds : (a b part : List Term) → All (λ (t : Term). t.row ≡ i → ⊥) a → Holds b part → Holds (a ++ b) part
  back_holds a b part others holds = record {
    stands = λ h. holds.stands (both_stand s g u k i a b h).1;
    same = λ h. (let e = holds.same (both_stand s g u k i a b h).1 in
        omega (arith, ints, sum_kept-append s g u k i a b, others_add_nothing s g u k i a others, e));
  }

  -- so the row has the value of this part
  by_part : (all part : List Term) → s.terms ≡ kept all → EquationsFit s → DividesEach g s.terms → i < s.rows →
      Holds all part → (r : Ratio) →
      (KeptStand s g u k i part → Is r (sum_kept s g u k i part) (row_den s g u k i)) →
      SameValue (source_values s g u (Row i) k) r
  by_part all part e fits divides low holds r is =
      let stands : KeptStand s g u k i all =
      subst (All (Stands s g u k i)) e (λ n d h. (fits.terms n d h, divides n d h)) in
      row_meets s g u k i all e fits low r (subst (λ n.
      Is r n (row_den s g u k i)) (sym (holds.same stands)) (is (holds.stands stands)))

-- ---- second-order sections

-- what the section behind so many others reads
abbrev behind : Source → ℕ → ℕ → Source
behind from row zero = from
behind from row (suc j) = Row (row + j)

sections_rows : (count row : ℕ) (from : Source) (cs : List Fraction) →
    AllRowsIn row (row + count) (sections count row from cs)
sections_rows zero row from cs = All-nil (λ (t : Term). (row ≤ t.row) × (t.row < row + zero))
sections_rows (suc count) row from cs =
    let P : Term → Type 0 = λ t. (row ≤ t.row) × (t.row < row + suc count) in
    let one = recursion row from (take 3 cs) (take 3 (drop 3 cs)) in
    let rest = sections count (row + 1) (Row row) (drop 6 cs) in
    All-append P one rest (rows_in row (row + suc count) row one (omega arith) (omega arith)
    (recursion_rows row from (take 3 cs) (take 3 (drop 3 cs))))
    (All-weaker (λ (t : Term). (row + 1 ≤ t.row) × (t.row < row + 1 + count)) P (λ t h.
    (let l = h.0 in omega arith, let l = h.1 in omega arith)) rest
    (sections_rows count (row + 1) (Row row) (drop 6 cs)))

section_at : (s : Equations) (g : ℕ) (u : ℕ → ℕ → ℤ) (k i count row : ℕ) (from : Source) (cs : List Fraction)
    (j : ℕ) → j < count → row + j ≡ i →
    Holds s g u k i (sections count row from cs)
    (recursion i (behind from row j) (numerator_of cs j) (denominator_of cs j))
section_at s g u k i zero row from cs j h e = absurd (omega arith)
section_at s g u k i (suc count) row from cs zero h e =
    let one = recursion row from (take 3 cs) (take 3 (drop 3 cs)) in
    let rest = sections count (row + 1) (Row row) (drop 6 cs) in
    let same : row ≡ i = omega arith in
    subst (λ r. Holds s g u k i (one ++ rest) (recursion r from (take 3 cs) (take 3 (drop 3 cs)))) same
    (front_holds s g u k i one rest one
    (outside (row + 1) (row + 1 + count) i rest (inl (omega arith))
    (sections_rows count (row + 1) (Row row) (drop 6 cs))) (all_hold s g u k i one))
section_at s g u k i (suc count) row from cs (suc j) h e =
    let one = recursion row from (take 3 cs) (take 3 (drop 3 cs)) in
    let rest = sections count (row + 1) (Row row) (drop 6 cs) in
    let later = section_at s g u k i count (row + 1) (Row row) (drop 6 cs) j (omega arith) (omega arith) in
    let first : drop (6 * j) (drop 6 cs) ≡ drop (6 * suc j) cs =
    drop-drop (6 * j) 6 cs ∙ ap (λ n. drop n cs) (omega arith) in
    let second : drop (6 * j + 3) (drop 6 cs) ≡ drop (6 * suc j + 3) cs =
    drop-drop (6 * j + 3) 6 cs ∙ ap (λ n. drop n cs) (omega arith) in
    back_holds s g u k i one rest _
    (outside row (row + 1) i one (inr (omega arith))
    (rows_in row (row + 1) row one (omega arith) (omega arith)
    (recursion_rows row from (take 3 cs) (take 3 (drop 3 cs)))))
    (subst (λ from. Holds s g u k i rest
    (recursion i from (numerator_of cs (suc j)) (denominator_of cs (suc j)))) (behind_is j)
    (subst (λ x. Holds s g u k i rest
    (recursion i (behind (Row row) (row + 1) j) (take 3 x) (denominator_of cs (suc j)))) first
    (subst (λ x. Holds s g u k i rest
    (recursion i (behind (Row row) (row + 1) j) (numerator_of (drop 6 cs) j) (take 3 x))) second later)))
  where
    behind_is : (j : ℕ) → behind (Row row) (row + 1) j ≡ Row (row + j)
    behind_is zero = ap Row (omega arith)
    behind_is (suc j) = ap Row (omega arith)

behind_input : (j : ℕ) → behind (In 0) 0 j ≡ section_source j
behind_input zero = refl
behind_input (suc j) = ap Row (omega arith)

pub cascade_runs : CascadeRuns
cascade_runs count cs g u some few long divides i low k =
    let s = sos_equations cs in
    let n = length cs / 6 in
    let n_is : n ≡ count = omega (arith, long) in
    let none = sos_has_no_fault n cs (omega (arith, n_is, some)) (omega (arith, n_is, few))
    (omega (arith, n_is, long)) in
    let fits : EquationsFit s =
    system_fits n 1 (sos_terms cs) ((n - 1) ∷ []) (lit≤ tt) (lit≤ tt) (lit≤ tt) (lit≤ tt) (λ h.
    one_output n (n - 1) (omega arith)) none in
    let inside : i < n = omega (arith, n_is, low) in
    let holds = subst (λ from.
    Holds s g u k i (sos_terms cs) (recursion i from (numerator_of cs i) (denominator_of cs i)))
    (behind_input i) (section_at s g u k i n 0 (In 0) cs i inside (omega arith)) in
    by_part s g u k i (sos_terms cs) _ refl fits divides inside holds _
    (recursion_is s g u k i (numerator_of cs i) (denominator_of cs i) (section_source i))

-- ---- state space

abbrev row_terms : ℕ → ℕ → ℕ → List Fraction → List Fraction → List Term
row_terms row n m x u = over_sources row (λ j. Row j) 1 0 (take n x) ++ over_sources row (λ j. In j) 0 0 (take m u)

row_terms_rows : (row n m : ℕ) (x u : List Fraction) → All (λ (t : Term). t.row ≡ row) (row_terms row n m x u)
row_terms_rows row n m x u =
    All-append (λ (t : Term). t.row ≡ row) (over_sources row (λ j. Row j) 1 0 (take n x))
    (over_sources row (λ j. In j) 0 0 (take m u))
    (sources_rows row (λ j. Row j) 1 0 (take n x)) (sources_rows row (λ j. In j) 0 0 (take m u))

matrix_rows_in : (count row n m : ℕ) (x u : List Fraction) → AllRowsIn row (row + count) (matrix_rows count row n m x u)
matrix_rows_in zero row n m x u = All-nil (λ (t : Term). (row ≤ t.row) × (t.row < row + zero))
matrix_rows_in (suc count) row n m x u =
    let P : Term → Type 0 = λ t. (row ≤ t.row) × (t.row < row + suc count) in
    let rest = matrix_rows count (row + 1) n m (drop n x) (drop m u) in
    All-append P (row_terms row n m x u) rest
    (rows_in row (row + suc count) row (row_terms row n m x u) (omega arith) (omega arith)
    (row_terms_rows row n m x u))
    (All-weaker (λ (t : Term). (row + 1 ≤ t.row) × (t.row < row + 1 + count)) P (λ t h.
    (let l = h.0 in omega arith, let l = h.1 in omega arith)) rest
    (matrix_rows_in count (row + 1) n m (drop n x) (drop m u)))

matrix_row_at : (s : Equations) (g : ℕ) (w : ℕ → ℕ → ℤ) (k i count row n m : ℕ) (x u : List Fraction) (j : ℕ) →
    j < count → row + j ≡ i →
    Holds s g w k i (matrix_rows count row n m x u) (row_terms i n m (drop (j * n) x) (drop (j * m) u))
matrix_row_at s g w k i zero row n m x u j h e = absurd (omega arith)
matrix_row_at s g w k i (suc count) row n m x u zero h e =
    let rest = matrix_rows count (row + 1) n m (drop n x) (drop m u) in
    let same : row ≡ i = omega arith in
    let none : (n : ℕ) → 0 ≡ zero * n = λ n. omega arith in
    subst (λ d. Holds s g w k i (row_terms row n m x u ++ rest)
    (row_terms i n m (drop d x) (drop (zero * m) u))) (none n)
    (subst (λ d. Holds s g w k i (row_terms row n m x u ++ rest) (row_terms i n m x (drop d u))) (none m)
    (subst (λ r. Holds s g w k i (row_terms row n m x u ++ rest) (row_terms r n m x u)) same
    (front_holds s g w k i (row_terms row n m x u) rest (row_terms row n m x u)
    (outside (row + 1) (row + 1 + count) i rest (inl (omega arith))
    (matrix_rows_in count (row + 1) n m (drop n x) (drop m u)))
    (all_hold s g w k i (row_terms row n m x u)))))
matrix_row_at s g w k i (suc count) row n m x u (suc j) h e =
    let here = row_terms row n m x u in
    let rest = matrix_rows count (row + 1) n m (drop n x) (drop m u) in
    let later = matrix_row_at s g w k i count (row + 1) n m (drop n x) (drop m u) j (omega arith) (omega arith) in
    let first : drop (j * n) (drop n x) ≡ drop (suc j * n) x =
    drop-drop (j * n) n x ∙ ap (λ d. drop d x) (omega arith) in
    let second : drop (j * m) (drop m u) ≡ drop (suc j * m) u =
    drop-drop (j * m) m u ∙ ap (λ d. drop d u) (omega arith) in
    back_holds s g w k i here rest _
    (outside row (row + 1) i here (inr (omega arith))
    (rows_in row (row + 1) row here (omega arith) (omega arith) (row_terms_rows row n m x u)))
    (subst (λ x. Holds s g w k i rest (row_terms i n m x (drop (suc j * m) u))) first
    (subst (λ u. Holds s g w k i rest (row_terms i n m (drop (j * n) (drop n x)) u)) second later))

-- a row over the states of the moment before and the inputs
row_terms_is : (s : Equations) (g : ℕ) (w : ℕ → ℕ → ℤ) (k i n m : ℕ) (x u : List Fraction) →
    KeptStand s g w k i (row_terms i n m x u) →
    Is (sum_of (over_numbers (take n x) (λ j. read s g w k i (Row j) 1) 0)
    (over_numbers (take m u) (λ j. read s g w k i (In j) 0) 0)) (sum_kept s g w k i (row_terms i n m x u))
    (row_den s g w k i)
row_terms_is s g w k i n m x u stands =
    let states = over_sources i (λ j. Row j) 1 0 (take n x) in
    let inputs = over_sources i (λ j. In j) 0 0 (take m u) in
    let parts = both_stand s g w k i states inputs stands in
    subst (λ z. Is (sum_of (over_numbers (take n x) (λ j. read s g w k i (Row j) 1) 0)
    (over_numbers (take m u) (λ j. read s g w k i (In j) 0) 0)) z (row_den s g w k i))
    (sym (sum_kept-append s g w k i states inputs))
    (sum_is (over_numbers (take n x) (λ j. read s g w k i (Row j) 1) 0)
    (over_numbers (take m u) (λ j. read s g w k i (In j) 0) 0) (sum_kept s g w k i states)
    (sum_kept s g w k i inputs) (row_den s g w k i)
    (over_sources_is s g w k i (take n x) (λ j. Row j) 1 0 parts.0)
    (over_sources_is s g w k i (take m u) (λ j. In j) 0 0 parts.1))

up_from-long : (n count : ℕ) → length (up_from n count) ≡ count
up_from-long n zero = refl
up_from-long n (suc count) = ap suc (up_from-long (n + 1) count)

up_from-below : (n count high : ℕ) → n + count ≤ high → All (λ o. o < high) (up_from n count)
up_from-below n zero high h = All-nil (λ o. o < high)
up_from-below n (suc count) high h =
    All-cons (λ o. o < high) n (up_from (n + 1) count) (omega arith)
    (up_from-below (n + 1) count high (omega arith))

pub state_space_runs : StateSpaceRuns
state_space_runs n m p A B C D g u few_states some_inputs few_inputs some_outputs few_outputs divides =
    let s = ss_equations n m p A B C D in
    let none = ss_has_no_fault n m p A B C D few_states few_inputs some_outputs few_outputs in
    let long = up_from-long n p in
    let fits : EquationsFit s =
    system_fits (n + p) m (ss_terms n m p A B C D) (up_from n p) some_inputs few_inputs (omega arith)
    (omega arith) (λ h. up_from-below n p (n + p) (omega arith)) none in
    let top = matrix_rows n 0 n m A B in
    let bottom = matrix_rows p n n m C D in
    record {
      start = λ i h. refl;
      states = λ k i h.
          by_part s g u k i (top ++ bottom) (row_terms i n m (drop (i * n) A) (drop (i * m) B)) refl fits
          divides (omega arith)
          (front_holds s g u k i top bottom _ (outside n (n + p) i bottom (inl h) (matrix_rows_in p n n m C D))
          (matrix_row_at s g u k i n 0 n m A B i h (omega arith))) _
          (row_terms_is s g u k i n m (drop (i * n) A) (drop (i * m) B));
      outputs = λ k i h.
          by_part s g u k (n + i) (top ++ bottom) (row_terms (n + i) n m (drop (i * n) C) (drop (i * m) D))
          refl fits divides (omega arith)
          (back_holds s g u k (n + i) top bottom _
          (outside 0 (0 + n) (n + i) top (inr (omega arith)) (matrix_rows_in n 0 n m A B))
          (matrix_row_at s g u k (n + i) p n n m C D i h refl)) _
          (row_terms_is s g u k (n + i) n m (drop (i * n) C) (drop (i * m) D));
    }

-- ---- lattice

-- the two terms of a row that goes forward, and of one that comes back
abbrev forward_pair : ℕ → ℕ → ℕ → Fraction → List Term
forward_pair row n i c = summand row one_fraction (forward n (i + 1)) 0 ∷ summand row (minus c) (backward n i) 1 ∷ []

abbrev backward_pair : ℕ → ℕ → ℕ → Fraction → List Term
backward_pair row n i c = summand row c (forward n i) 0 ∷ summand row one_fraction (backward n i) 1 ∷ []

pair_in : (low high row : ℕ) (a b : Term) → low ≤ row → row < high → a.row ≡ row → b.row ≡ row →
    AllRowsIn low high (a ∷ b ∷ [])
pair_in low high row a b h l e f =
    let P : Term → Type 0 = λ t. (low ≤ t.row) × (t.row < high) in
    All-cons P a (b ∷ []) (omega arith, omega arith) (All-cons P b [] (omega arith, omega arith) (All-nil P))

forward_rows_below : (n i : ℕ) (cs : List Fraction) → i + length cs ≡ n → AllRowsIn 0 (n - i) (forward_rows n i cs)
forward_rows_below n i [] all = All-nil (λ (t : Term). (0 ≤ t.row) × (t.row < n - i))
forward_rows_below n i (c ∷ cs) all =
    let P : Term → Type 0 = λ t. (0 ≤ t.row) × (t.row < n - i) in
    let rest = forward_rows n (i + 1) cs in
    All-append P rest (forward_pair (n - 1 - i) n i c)
    (All-weaker (λ (t : Term). (0 ≤ t.row) × (t.row < n - (i + 1))) P (λ t h.
    (h.0, let l = h.1 in omega arith)) rest (forward_rows_below n (i + 1) cs (omega arith)))
    (pair_in 0 (n - i) (n - 1 - i) _ _ (omega arith) (omega arith) refl refl)

backward_rows_above : (n i : ℕ) (cs : List Fraction) → AllRowsIn (n + i) (n + i + length cs) (backward_rows n i cs)
backward_rows_above n i [] = All-nil (λ (t : Term). (n + i ≤ t.row) × (t.row < n + i + 0))
backward_rows_above n i (c ∷ cs) =
    let P : Term → Type 0 = λ t. (n + i ≤ t.row) × (t.row < n + i + suc (length cs)) in
    let rest = backward_rows n (i + 1) cs in
    All-append P (backward_pair (n + i) n i c) rest
    (pair_in (n + i) (n + i + suc (length cs)) (n + i) _ _ (omega arith) (omega arith) refl refl)
    (All-weaker (λ (t : Term). (n + (i + 1) ≤ t.row) × (t.row < n + (i + 1) + length cs)) P (λ t h.
    (let l = h.0 in omega arith, let l = h.1 in omega arith)) rest (backward_rows_above n (i + 1) cs))

forward_at : (s : Equations) (g : ℕ) (u : ℕ → ℕ → ℤ) (k row n i : ℕ) (cs : List Fraction) (j : ℕ) →
    i + length cs ≡ n → j < length cs → n - 1 - (i + j) ≡ row →
    Holds s g u k row (forward_rows n i cs) (forward_pair row n (i + j) (reflection cs j))
forward_at s g u k row n i [] j all h e = absurd (omega arith)
forward_at s g u k row n i (c ∷ cs) zero all h e =
    let rest = forward_rows n (i + 1) cs in
    let pair = forward_pair (n - 1 - i) n i c in
    let same : n - 1 - i ≡ row = omega arith in
    let at : i ≡ i + zero = omega arith in
    subst (λ i'. Holds s g u k row (rest ++ pair) (forward_pair row n i' c)) at
    (subst (λ r. Holds s g u k row (rest ++ pair) (forward_pair r n i c)) same
    (back_holds s g u k row rest pair pair
    (outside 0 (n - (i + 1)) row rest (inr (omega arith)) (forward_rows_below n (i + 1) cs (omega arith)))
    (all_hold s g u k row pair)))
forward_at s g u k row n i (c ∷ cs) (suc j) all h e =
    let rest = forward_rows n (i + 1) cs in
    let pair = forward_pair (n - 1 - i) n i c in
    let at : i + 1 + j ≡ i + suc j = omega arith in
    front_holds s g u k row rest pair _
    (outside (n - 1 - i) (n - i) row pair (inl (omega arith))
    (pair_in (n - 1 - i) (n - i) (n - 1 - i) _ _ (omega arith) (omega arith) refl refl))
    (subst (λ i'. Holds s g u k row rest (forward_pair row n i' (reflection cs j))) at
    (forward_at s g u k row n (i + 1) cs j (omega arith) (omega arith) (omega arith)))

backward_at : (s : Equations) (g : ℕ) (u : ℕ → ℕ → ℤ) (k row n i : ℕ) (cs : List Fraction) (j : ℕ) →
    j < length cs → n + (i + j) ≡ row →
    Holds s g u k row (backward_rows n i cs) (backward_pair row n (i + j) (reflection cs j))
backward_at s g u k row n i [] j h e = absurd (omega arith)
backward_at s g u k row n i (c ∷ cs) zero h e =
    let rest = backward_rows n (i + 1) cs in
    let pair = backward_pair (n + i) n i c in
    let same : n + i ≡ row = omega arith in
    let at : i ≡ i + zero = omega arith in
    subst (λ i'. Holds s g u k row (pair ++ rest) (backward_pair row n i' c)) at
    (subst (λ r. Holds s g u k row (pair ++ rest) (backward_pair r n i c)) same
    (front_holds s g u k row pair rest pair
    (outside (n + (i + 1)) (n + (i + 1) + length cs) row rest (inl (omega arith))
    (backward_rows_above n (i + 1) cs)) (all_hold s g u k row pair)))
backward_at s g u k row n i (c ∷ cs) (suc j) h e =
    let rest = backward_rows n (i + 1) cs in
    let pair = backward_pair (n + i) n i c in
    let at : i + 1 + j ≡ i + suc j = omega arith in
    back_holds s g u k row pair rest _
    (outside (n + i) (n + i + 1) row pair (inr (omega arith))
    (pair_in (n + i) (n + i + 1) (n + i) _ _ (omega arith) (omega arith) refl refl))
    (subst (λ i'. Holds s g u k row rest (backward_pair row n i' (reflection cs j))) at
    (backward_at s g u k row n (i + 1) cs j (omega arith) (omega arith)))

module _ (s : Equations) (g : ℕ) (u : ℕ → ℕ → ℤ) (k row n i : ℕ) (c : Fraction) where
  -- a term with coefficient 1 is what it reads
  unit_is : (from : Source) (lag : ℕ) → KeptStand s g u k row (summand row one_fraction from lag ∷ []) →
      Is (read s g u k row from lag) (sum_kept s g u k row (summand row one_fraction from lag ∷ []))
      (row_den s g u k row)
  unit_is from lag stands =
      let r = read s g u k row from lag in
      let one : pos 1 *ℤ r.num ≡ r.num = omega (arith, ints) in
      let once : 1 * r.den ≡ r.den = omega arith in
      let n = sum_kept s g u k row (summand row one_fraction from lag ∷ []) in
      ap (λ x. x *ℤ pos (row_den s g u k row)) (sym one) ∙ term_is s g u k row one_fraction from lag stands
      ∙ ap (λ d. n *ℤ pos d) once

  forward_pair_is : KeptStand s g u k row (forward_pair row n i c) →
      Is (difference_of (read s g u k row (forward n (i + 1)) 0)
      (product_of (value_of c) (read s g u k row (backward n i) 1)))
      (sum_kept s g u k row (forward_pair row n i c)) (row_den s g u k row)
  forward_pair_is stands =
      let a = summand row one_fraction (forward n (i + 1)) 0 in
      let b = summand row (minus c) (backward n i) 1 in
      let parts = both_stand s g u k row (a ∷ []) (b ∷ []) stands in
      subst (λ z. Is (difference_of (read s g u k row (forward n (i + 1)) 0)
      (product_of (value_of c) (read s g u k row (backward n i) 1))) z (row_den s g u k row))
      (sym (sum_kept-append s g u k row (a ∷ []) (b ∷ [])))
      (difference_is (read s g u k row (forward n (i + 1)) 0)
      (product_of (value_of c) (read s g u k row (backward n i) 1)) (sum_kept s g u k row (a ∷ []))
      (sum_kept s g u k row (b ∷ [])) (row_den s g u k row)
      (unit_is (forward n (i + 1)) 0 parts.0) (minus_term_is s g u k row c (backward n i) 1 parts.1))

  backward_pair_is : KeptStand s g u k row (backward_pair row n i c) →
      Is (sum_of (product_of (value_of c) (read s g u k row (forward n i) 0))
      (read s g u k row (backward n i) 1)) (sum_kept s g u k row (backward_pair row n i c))
      (row_den s g u k row)
  backward_pair_is stands =
      let a = summand row c (forward n i) 0 in
      let b = summand row one_fraction (backward n i) 1 in
      let parts = both_stand s g u k row (a ∷ []) (b ∷ []) stands in
      subst (λ z. Is (sum_of (product_of (value_of c) (read s g u k row (forward n i) 0))
      (read s g u k row (backward n i) 1)) z (row_den s g u k row))
      (sym (sum_kept-append s g u k row (a ∷ []) (b ∷ [])))
      (sum_is (product_of (value_of c) (read s g u k row (forward n i) 0)) (read s g u k row (backward n i) 1)
      (sum_kept s g u k row (a ∷ [])) (sum_kept s g u k row (b ∷ [])) (row_den s g u k row)
      (term_is s g u k row c (forward n i) 0 parts.0) (unit_is (backward n i) 1 parts.1))

forward_top : (n : ℕ) → forward n n ≡ In 0
forward_top n = cond-true (eqb n n) (In 0) (Row (n - 1 - n)) (eq-eqb n n refl)

forward_is : (n i : ℕ) → i < n → forward n i ≡ Row (n - 1 - i)
forward_is n i h = cond-false (eqb i n) (In 0) (Row (n - 1 - i)) (ne_eqb i n (λ same. omega arith))

backward_is : (n i : ℕ) → 1 ≤ n → backward n i ≡ Row (n - 1 + i)
backward_is n i h = cond-false (eqb n 0) (In 0) (Row (n - 1 + i)) (ne_eqb n 0 (λ same. omega arith))

backward_first : (n : ℕ) → backward n 0 ≡ forward n 0
backward_first zero = refl
backward_first (suc n) = backward_is (suc n) 0 (omega arith)
    ∙ ap Row (let e : suc n - 1 + 0 ≡ suc n - 1 - 0 = omega arith in e)
    ∙ sym (forward_is (suc n) 0 (omega arith))

none_before : (i : ℕ) → 0 + i ≡ i
none_before i = omega arith

pub lattice_runs : LatticeRuns
lattice_runs v taps g u few long divides =
    let n = length v in
    let s = lattice_equations v taps in
    let fs = forward_rows n 0 v in
    let gs = backward_rows n 0 v in
    let ys = over_sources (2 * n) (backward n) 0 0 taps in
    let all = lattice_terms v taps in
    let none = lattice_has_no_fault v taps few (omega arith) in
    let fits : EquationsFit s =
    system_fits (2 * n + 1) 1 all ((2 * n) ∷ []) (lit≤ tt) (lit≤ tt) (lit≤ tt) (lit≤ tt) (λ h.
    one_output (2 * n + 1) (2 * n) (omega arith)) none in
    let last_row : AllRowsIn (2 * n) (2 * n + 1) ys =
    rows_in (2 * n) (2 * n + 1) (2 * n) ys (omega arith) (omega arith)
    (sources_rows (2 * n) (backward n) 0 0 taps) in
    record {
      front = λ k. ap (λ from. source_values s g u from k) (forward_top n);
      back = λ k. ap (λ from. source_values s g u from k) (backward_first n);
      forward_rows = λ k i h.
          let row = n - 1 - i in
          let r = difference_of (read s g u k row (forward n (i + 1)) 0)
          (product_of (value_of (reflection v i)) (read s g u k row (backward n i) 1)) in
          subst (λ from. SameValue (source_values s g u from k) r) (sym (forward_is n i h))
          (by_part s g u k row all (forward_pair row n i (reflection v i)) refl fits divides (omega arith)
          (front_holds s g u k row (fs ++ gs) ys _ (outside (2 * n) (2 * n + 1) row ys (inl (omega arith)) last_row)
          (front_holds s g u k row fs gs _
          (outside (n + 0) (n + 0 + n) row gs (inl (omega arith)) (backward_rows_above n 0 v))
          (subst (λ j. Holds s g u k row fs (forward_pair row n j (reflection v i))) (none_before i)
          (forward_at s g u k row n 0 v i (omega arith) h (omega arith))))) r
          (forward_pair_is s g u k row n i (reflection v i)));
      backward_rows = λ k i h.
          let row = n + i in
          let r = sum_of (product_of (value_of (reflection v i)) (read s g u k row (forward n i) 0))
          (read s g u k row (backward n i) 1) in
          let at : Row (n - 1 + (i + 1)) ≡ Row row = ap Row (omega arith) in
          subst (λ from. SameValue (source_values s g u from k) r) (sym (backward_is n (i + 1) (omega arith) ∙ at))
          (by_part s g u k row all (backward_pair row n i (reflection v i)) refl fits divides (omega arith)
          (front_holds s g u k row (fs ++ gs) ys _ (outside (2 * n) (2 * n + 1) row ys (inl (omega arith)) last_row)
          (back_holds s g u k row fs gs _
          (outside 0 (n - 0) row fs (inr (omega arith)) (forward_rows_below n 0 v (omega arith)))
          (subst (λ j. Holds s g u k row gs (backward_pair row n j (reflection v i))) (none_before i)
          (backward_at s g u k row n 0 v i h (omega arith))))) r
          (backward_pair_is s g u k row n i (reflection v i)));
      output = λ k.
          let row = 2 * n in
          by_part s g u k row all ys refl fits divides (omega arith)
          (back_holds s g u k row (fs ++ gs) ys ys
          (All-append (λ (t : Term). t.row ≡ row → ⊥) fs gs
          (outside 0 (n - 0) row fs (inr (omega arith)) (forward_rows_below n 0 v (omega arith)))
          (outside (n + 0) (n + 0 + n) row gs (inr (omega arith)) (backward_rows_above n 0 v)))
          (all_hold s g u k row ys)) _
          (over_sources_is s g u k row taps (backward n) 0 0);
    }
