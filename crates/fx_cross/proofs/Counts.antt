-- How many entries are not 0, by rows and columns.
use Rattle.std.proofs.Common.{◌≡◌, ℕ, zero, suc, ◌+◌, ◌*◌, ◌<◌, ◌≤◌, List, length, get_or, take, refl, sym, ◌∙◌}
use Rattle.std.proofs.Common.{ap, arith}
use Rattle.std.specs.List.{sum_by}
use Rattle.std.proofs.lemmas.List.{take_all}
use Rattle.std.proofs.lemmas.List.Sums.{sum_by_more}
use Rattle.fx_nums.specs.Fraction.{Fraction, zero_fraction}
use Rattle.fx_math.specs.Sums.{sum_below}
use Rattle.fx_cross.specs.Table.{spot, weight, nonzero_entries}
use Rattle.fx_cross.proofs.Spots.{spot_inside}

sum_below_ext : (n : ℕ) (f g : ℕ → ℕ) → ((k : ℕ) → k < n → f k ≡ g k) → sum_below n f ≡ sum_below n g
sum_below_ext zero f g same = refl
sum_below_ext (suc n) f g same = omega (arith, sum_below_ext n f g (λ k h. same k (omega arith)), same n (omega arith))

-- so many first elements
sum_of_list : {A : Type 0} → (w : A → ℕ) (xs : List A) (d : A) (n : ℕ) → n ≤ length xs →
    sum_by w (take n xs) ≡ sum_below n (λ k. w (get_or xs k d))
sum_of_list w xs d zero h = refl
sum_of_list w xs d (suc n) h =
    let more : sum_by w (take (n + 1) xs) ≡ sum_by w (take n xs) + w (get_or xs n d) =
    sum_by_more w xs n d (omega arith) in
    let e : n + 1 ≡ suc n = omega arith in
    let rest : sum_by w (take n xs) ≡ sum_below n (λ k. w (get_or xs k d)) = sum_of_list w xs d n (omega arith) in
    ap (λ (m : ℕ). sum_by w (take m xs)) (sym e) ∙ more ∙ ap (λ (m : ℕ). m + w (get_or xs n d)) rest

-- a sum in two parts
sum_split : (a m : ℕ) (f : ℕ → ℕ) → sum_below (a + m) f ≡ sum_below a f + sum_below m (λ j. f (a + j))
sum_split a zero f = let e : a + 0 ≡ a = omega arith in ap (λ (n : ℕ). sum_below n f) e ∙ omega arith
sum_split a (suc m) f = let e : a + suc m ≡ suc (a + m) =
    omega arith in ap (λ (n : ℕ). sum_below n f) e ∙ omega (arith, sum_split a m f)

-- a sum row by row
sum_rows : (rows columns : ℕ) (f : ℕ → ℕ) → sum_below (rows * columns) f
    ≡ sum_below rows (λ i. sum_below columns (λ j. f (i * columns + j)))
sum_rows zero columns f = let e : 0 * columns ≡ 0 = omega arith in ap (λ (n : ℕ). sum_below n f) e
sum_rows (suc rows) columns f =
    let e : suc rows * columns ≡ rows * columns + columns = omega arith in
    ap (λ (n : ℕ). sum_below n f) e ∙ sum_split (rows * columns) columns f
    ∙ ap (λ (m : ℕ). m + sum_below columns (λ j. f (rows * columns + j))) (sum_rows rows columns f)

pub count_by_rows : (rows columns : ℕ) (xs : List Fraction) → length xs ≡ rows * columns →
    sum_by weight xs ≡ nonzero_entries rows columns (spot rows columns zero_fraction xs)
count_by_rows rows columns xs e =
    ap (sum_by weight) (sym (take_all (rows * columns) xs (omega arith)))
    ∙ sum_of_list weight xs zero_fraction (rows * columns) (omega arith)
    ∙ sum_rows rows columns (λ k. weight (get_or xs k zero_fraction))
    ∙ sum_below_ext rows (λ i. sum_below columns (λ j. weight (get_or xs (i * columns + j) zero_fraction)))
    (λ i. sum_below columns (λ j. weight (spot rows columns zero_fraction xs i j)))
    (λ i h. sum_below_ext columns (λ j. weight (get_or xs (i * columns + j) zero_fraction)) (λ j.
    weight (spot rows columns zero_fraction xs i j)) (λ j k.
    ap weight (sym (spot_inside rows columns zero_fraction xs i j h k))))
