-- How many terms there are.
use Rattle.std.proofs.Common.{◌≡◌, ℕ, zero, suc, ◌+◌, ◌*◌, ◌≤◌, List, [], ◌∷◌, ◌++◌, length, length-append}
use Rattle.std.proofs.Common.{length-take, length-drop, take, drop, map, refl, arith}
use Rattle.std.proofs.lemmas.List.{length-map}
use Rattle.fx_nums.specs.Fraction.{Fraction, minus}
use Rattle.fx_eqs.specs.Textbook.{backward, backward_rows, forward_rows, lattice_terms, matrix_rows, over_lags}
use Rattle.fx_eqs.specs.Textbook.{over_sources, recursion, sections, ss_terms, tf_terms}
use Rattle.fx_eqs.specs.declared.limits.TheConstants.{PORTS, STATES}
use Rattle.fx_eqs.specs.declared.term.Source.{Source}
use Rattle.fx_eqs.specs.declared.term.Source.TheVariants.{Row, In}
use Rattle.fx_eqs.proofs.Parts.{length-over_lags, length-over_sources}

recursion_count : (row : ℕ) (from : Source) (b a : List Fraction) →
    length (recursion row from b a) ≤ length b + length a
recursion_count row from b a =
    let fed = map minus (drop 1 a) in
    let whole = length-append (over_lags row from 0 b) (over_lags row (Row row) 1 fed) in
    let x = length-over_lags row from 0 b in
    let y = length-over_lags row (Row row) 1 fed in
    let z = length-map (drop 1 a) minus in
    let w = length-drop 1 a in
    omega arith

pub transfer_count : (b a : List Fraction) → length (tf_terms b a) ≤ length b + length a
transfer_count b a = recursion_count 0 (In 0) b a

pub sections_count : (count row : ℕ) (from : Source) (cs : List Fraction) →
    length (sections count row from cs) ≤ 6 * count
sections_count zero row from cs = omega arith
sections_count (suc count) row from cs =
    let one = recursion row from (take 3 cs) (take 3 (drop 3 cs)) in
    let rest = sections count (row + 1) (Row row) (drop 6 cs) in
    let whole = length-append one rest in
    let x = recursion_count row from (take 3 cs) (take 3 (drop 3 cs)) in
    let y = length-take 3 cs in
    let z = length-take 3 (drop 3 cs) in
    let w = sections_count count (row + 1) (Row row) (drop 6 cs) in
    omega arith

rows_count : (count row n m : ℕ) (x u : List Fraction) → n ≤ STATES → m ≤ PORTS →
    length (matrix_rows count row n m x u) ≤ (STATES + PORTS) * count
rows_count zero row n m x u p q = omega arith
rows_count (suc count) row n m x u p q =
    let a = over_sources row (λ j. Row j) 1 0 (take n x) in
    let b = over_sources row (λ j. In j) 0 0 (take m u) in
    let rest = matrix_rows count (row + 1) n m (drop n x) (drop m u) in
    let both = length-append a b in
    let whole = length-append (a ++ b) rest in
    let e = length-over_sources row (λ j. Row j) 1 0 (take n x) in
    let f = length-over_sources row (λ j. In j) 0 0 (take m u) in
    let g = length-take n x in
    let h = length-take m u in
    let i = rows_count count (row + 1) n m (drop n x) (drop m u) p q in
    omega arith

pub space_count : (n m p : ℕ) (A B C D : List Fraction) → n ≤ STATES → m ≤ PORTS →
    length (ss_terms n m p A B C D) ≤ (STATES + PORTS) * n + (STATES + PORTS) * p
space_count n m p A B C D s t =
    let whole = length-append (matrix_rows n 0 n m A B) (matrix_rows p n n m C D) in
    let x = rows_count n 0 n m A B s t in
    let y = rows_count p n n m C D s t in
    omega arith

forward_count : (n i : ℕ) (cs : List Fraction) → length (forward_rows n i cs) ≡ 2 * length cs
forward_count n i [] = refl
forward_count n i (c ∷ cs) =
    grind (arith, length-append, forward_count n (i + 1) cs)

backward_count : (n i : ℕ) (cs : List Fraction) → length (backward_rows n i cs) ≡ 2 * length cs
backward_count n i [] = refl
backward_count n i (c ∷ cs) = let x = backward_count n (i + 1) cs in omega arith

pub ladder_count : (k v : List Fraction) → length (lattice_terms k v) ≡ 4 * length k + length v
ladder_count k v =
    let n = length k in
    let a = forward_rows n 0 k in
    let b = backward_rows n 0 k in
    let c = over_sources (2 * n) (backward n) 0 0 v in
    let both = length-append a b in
    let whole = length-append (a ++ b) c in
    let x = forward_count n 0 k in
    let y = backward_count n 0 k in
    let z = length-over_sources (2 * n) (backward n) 0 0 v in
    omega arith
