-- The terms of one section, or of one row of two matrices, and those of the others.
use Rattle.std.proofs.Common.{◌≡◌, ℕ, zero, suc, ◌+◌, ◌-◌, ◌*◌, ◌<◌, length, All, List, [], ◌∷◌, ◌++◌, take}
use Rattle.std.proofs.Common.{drop, refl, arith, ap, sym, ◌∙◌, append_assoc}
use Rattle.std.proofs.lemmas.List.Elements.{All-nil, All-cons}
use Rattle.fx_nums.specs.Fraction.{Fraction}
use Rattle.fx_eqs.specs.Textbook.{matrix_rows, over_sources, recursion, sections, up_from}
use Rattle.fx_eqs.specs.declared.term.Source.{Source}
use Rattle.fx_eqs.specs.declared.term.Source.TheVariants.{Row, In}

-- three entries twice are six
pub three_twice : (cs : List Fraction) → drop 3 (drop 3 cs) ≡ drop 6 cs
three_twice [] = refl
three_twice (a ∷ []) = refl
three_twice (a ∷ b ∷ []) = refl
three_twice (a ∷ b ∷ c ∷ cs) = refl

pub next_section : (count row : ℕ) (from : Source) (cs : List Fraction) → 0 < count →
    sections count row from cs
    ≡ recursion row from (take 3 cs) (take 3 (drop 3 cs)) ++ sections (count - 1) (row + 1) (Row row)
    (drop 3 (drop 3 cs))
next_section zero row from cs h = absurd (omega arith)
next_section (suc count) row from cs h = let e : suc count - 1 ≡ count = omega arith in rw (e, three_twice cs) refl

pub next_row : (count row n m : ℕ) (x u : List Fraction) → 0 < count →
    matrix_rows count row n m x u ≡ over_sources row (λ j. Row j) 1 0 (take n x) ++ over_sources row (λ j.
    In j) 0 0 (take m u) ++ matrix_rows (count - 1) (row + 1) n m (drop n x) (drop m u)
next_row zero row n m x u h = absurd (omega arith)
next_row (suc count) row n m x u h = let e : suc count - 1 ≡ count = omega arith in rw e refl

-- one row less of so many entries each
pub one_less : (count n : ℕ) → 0 < count → count * n ≡ (count - 1) * n + n
one_less zero n h = absurd (omega arith)
one_less (suc count) n h = let e : suc count - 1 ≡ count = omega arith in rw e (omega arith)

-- one number more at the end
pub up_one : (first count : ℕ) → up_from first (count + 1) ≡ up_from first count ++ (first + count) ∷ []
up_one first zero = let e : first + 0 ≡ first = omega arith in rw e refl
up_one first (suc count) =
    let more = up_one (first + 1) count in
    let e : first + 1 + count ≡ first + suc count = omega arith in
    let s : suc count + 1 ≡ suc (count + 1) = omega arith in
    rw s (rw (more, e) refl)

-- grouped from the left
pub regrouped : {A : Type 0} (o a b r : List A) → o ++ (a ++ b ++ r) ≡ o ++ a ++ b ++ r
regrouped o a b r = ap (λ t. o ++ t) (append_assoc a b r) ∙ sym (append_assoc o a (b ++ r))
    ∙ sym (append_assoc (o ++ a) b r)

-- ---- the numbers from one on

pub length-up_from : (n count : ℕ) → length (up_from n count) ≡ count
length-up_from n zero = refl
length-up_from n (suc count) = ap suc (length-up_from (n + 1) count)

pub up_from_below : (n count : ℕ) → All (λ o. o < n + count) (up_from n count)
up_from_below n zero = All-nil (λ o. o < n + 0)
up_from_below n (suc count) =
    let e : n + suc count ≡ n + 1 + count = omega arith in
    rw e (All-cons (λ o. o < n + 1 + count) n (up_from (n + 1) count) (omega arith) (up_from_below (n + 1) count))
