-- Equations over coefficients with powers of ten below them have such coefficients themselves.
use Rattle.std.proofs.Common.{ℕ, zero, suc, ◌+◌, ◌-◌, ◌*◌, ◌/◌, List, [], ◌∷◌, ◌++◌, length, take, drop, map, refl, All}
use Rattle.std.proofs.lemmas.List.Elements.{All-nil, All-cons, All-head, All-tail, All-append, All-map}
use Rattle.std.proofs.lemmas.List.Elements.{All-take, All-drop, All-filter}
use Rattle.fx_nums.specs.Fraction.{Fraction, one_fraction, minus}
use Rattle.fx_eqs.specs.Equations.{is_kept}
use Rattle.fx_eqs.specs.Textbook.{backward, backward_rows, forward, forward_rows, lattice_terms, matrix_rows}
use Rattle.fx_eqs.specs.Textbook.{over_lags, over_sources, recursion, sections, ss_terms, summand, tf_terms}
use Rattle.fx_eqs.specs.declared.term.Source.{Source}
use Rattle.fx_eqs.specs.declared.term.Source.TheVariants.{Row, In}
use Rattle.fx_eqs.specs.declared.term.Term.{Term}
use Rattle.fx_nums.specs.Fraction.{OverTen}
use Rattle.fx_files.specs.Building.{equations_of}
use Rattle.fx_files.specs.Coefficients.{Coefficients, Tf, Sos, Ss, Lattice, coefficients_of}
use Rattle.fx_files.proofs.ListsOverTen.{each_over_ten}

-- a term over a power of ten
abbrev pub TermOverTen : Term → Type 0
TermOverTen t = OverTen t.coef

over_lags_kept : (row : ℕ) (from : Source) (lag : ℕ) (cs : List Fraction) → All OverTen cs →
    All TermOverTen (over_lags row from lag cs)
over_lags_kept row from lag [] h = All-nil TermOverTen
over_lags_kept row from lag (c ∷ cs) h =
    All-cons TermOverTen (summand row c from lag) (over_lags row from (lag + 1) cs) (All-head OverTen c cs h)
    (over_lags_kept row from (lag + 1) cs (All-tail OverTen c cs h))

over_sources_kept : (row : ℕ) (from : ℕ → Source) (lag j : ℕ) (cs : List Fraction) → All OverTen cs →
    All TermOverTen (over_sources row from lag j cs)
over_sources_kept row from lag j [] h = All-nil TermOverTen
over_sources_kept row from lag j (c ∷ cs) h =
    All-cons TermOverTen (summand row c (from j) lag) (over_sources row from lag (j + 1) cs)
    (All-head OverTen c cs h) (over_sources_kept row from lag (j + 1) cs (All-tail OverTen c cs h))

recursion_kept : (row : ℕ) (from : Source) (b a : List Fraction) → All OverTen b → All OverTen a →
    All TermOverTen (recursion row from b a)
recursion_kept row from b a p q =
    All-append TermOverTen (over_lags row from 0 b) (over_lags row (Row row) 1 (map minus (drop 1 a)))
    (over_lags_kept row from 0 b p)
    (over_lags_kept row (Row row) 1 (map minus (drop 1 a)) (All-map OverTen minus (drop 1 a) (All-drop OverTen 1 a q)))

sections_kept : (count row : ℕ) (from : Source) (cs : List Fraction) → All OverTen cs →
    All TermOverTen (sections count row from cs)
sections_kept zero row from cs h = All-nil TermOverTen
sections_kept (suc count) row from cs h =
    All-append TermOverTen (recursion row from (take 3 cs) (take 3 (drop 3 cs)))
    (sections count (row + 1) (Row row) (drop 6 cs))
    (recursion_kept row from (take 3 cs) (take 3 (drop 3 cs)) (All-take OverTen 3 cs h)
    (All-take OverTen 3 (drop 3 cs) (All-drop OverTen 3 cs h)))
    (sections_kept count (row + 1) (Row row) (drop 6 cs) (All-drop OverTen 6 cs h))

rows_kept : (count row n m : ℕ) (x u : List Fraction) → All OverTen x → All OverTen u →
    All TermOverTen (matrix_rows count row n m x u)
rows_kept zero row n m x u p q = All-nil TermOverTen
rows_kept (suc count) row n m x u p q =
    let a = over_sources row (λ j. Row j) 1 0 (take n x) in
    let b = over_sources row (λ j. In j) 0 0 (take m u) in
    let rest = matrix_rows count (row + 1) n m (drop n x) (drop m u) in
    All-append TermOverTen (a ++ b) rest
    (All-append TermOverTen a b (over_sources_kept row (λ j. Row j) 1 0 (take n x) (All-take OverTen n x p))
    (over_sources_kept row (λ j. In j) 0 0 (take m u) (All-take OverTen m u q)))
    (rows_kept count (row + 1) n m (drop n x) (drop m u) (All-drop OverTen n x p) (All-drop OverTen m u q))

forward_kept : (n i : ℕ) (cs : List Fraction) → All OverTen cs → All TermOverTen (forward_rows n i cs)
forward_kept n i [] h = All-nil TermOverTen
forward_kept n i (c ∷ cs) h =
    let unit = summand (n - 1 - i) one_fraction (forward n (i + 1)) 0 in
    let back = summand (n - 1 - i) (minus c) (backward n i) 1 in
    All-append TermOverTen (forward_rows n (i + 1) cs) (unit ∷ back ∷ [])
    (forward_kept n (i + 1) cs (All-tail OverTen c cs h))
    (All-cons TermOverTen unit (back ∷ []) refl
    (All-cons TermOverTen back [] (All-head OverTen c cs h) (All-nil TermOverTen)))

backward_kept : (n i : ℕ) (cs : List Fraction) → All OverTen cs → All TermOverTen (backward_rows n i cs)
backward_kept n i [] h = All-nil TermOverTen
backward_kept n i (c ∷ cs) h =
    let front = summand (n + i) c (forward n i) 0 in
    let unit = summand (n + i) one_fraction (backward n i) 1 in
    let rest = backward_rows n (i + 1) cs in
    All-cons TermOverTen front (unit ∷ rest) (All-head OverTen c cs h)
    (All-cons TermOverTen unit rest refl (backward_kept n (i + 1) cs (All-tail OverTen c cs h)))

lattice_kept : (k v : List Fraction) → All OverTen k → All OverTen v → All TermOverTen (lattice_terms k v)
lattice_kept k v p q =
    let n = length k in
    All-append TermOverTen (forward_rows n 0 k ++ backward_rows n 0 k) (over_sources (2 * n) (backward n) 0 0 v)
    (All-append TermOverTen (forward_rows n 0 k) (backward_rows n 0 k) (forward_kept n 0 k p) (backward_kept n 0 k p))
    (over_sources_kept (2 * n) (backward n) 0 0 v q)

space_kept : (n m p : ℕ) (A B C D : List Fraction) → All OverTen A → All OverTen B → All OverTen C →
    All OverTen D → All TermOverTen (ss_terms n m p A B C D)
space_kept n m p A B C D a b c d =
    All-append TermOverTen (matrix_rows n 0 n m A B) (matrix_rows p n n m C D) (rows_kept n 0 n m A B a b)
    (rows_kept p n n m C D c d)

-- the equations of each form
pub equations_over_ten : (m p : ℕ) (c : Coefficients) → All OverTen (coefficients_of c) →
    All TermOverTen (equations_of m p c).terms
equations_over_ten m p (Tf b a) h = let e = each_over_ten (Tf b a) h in
    All-filter is_kept TermOverTen (tf_terms b a) (recursion_kept 0 (In 0) b a e.0 e.1)
equations_over_ten m p (Sos s) h =
    All-filter is_kept TermOverTen (sections (length s / 6) 0 (In 0) s)
    (sections_kept (length s / 6) 0 (In 0) s h)
equations_over_ten m p (Ss n A B C D) h =
    let e = each_over_ten (Ss n A B C D) h in
    All-filter is_kept TermOverTen (ss_terms n m p A B C D) (space_kept n m p A B C D e.0 e.1 e.2 e.3)
equations_over_ten m p (Lattice k v) h = let e = each_over_ten (Lattice k v) h in
    All-filter is_kept TermOverTen (lattice_terms k v) (lattice_kept k v e.0 e.1)
