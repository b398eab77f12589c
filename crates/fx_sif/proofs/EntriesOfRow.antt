-- The entries of one row among all of a form.
use Rattle.std.proofs.Common.{◌≡◌, ℕ, zero, suc, ◌+◌, ◌<◌, ◌≤◌, ◌⊎◌, inl, inr, true, eqb, List, [], ◌∷◌, ◌++◌}
use Rattle.std.proofs.Common.{filter, refl, arith, sym, ap, ap₂, ◌∙◌}
use Rattle.std.proofs.lemmas.Bool.{cond-true, cond-false, and_right, and_from, eq-eqb, ne_eqb, cases_lt}
use Rattle.std.proofs.lemmas.List.Elements.{filter-append}
use Rattle.fx_math.specs.Sums.{joined}
use Rattle.fx_nums.specs.Fraction.{Fraction}
use Rattle.fx_sif.specs.Rows.{row_place, is_read, is_in_row}
use Rattle.fx_sif.specs.declared.parts.Block.{Block}
use Rattle.fx_sif.specs.declared.parts.Entry.{Entry}
use Rattle.fx_sif.specs.declared.parts.Sizes.{Sizes}
use Rattle.fx_sif.specs.Entries.{across}

-- all are read in row p
abbrev pub InRow : Sizes → ℕ → List Entry → Type 0
InRow s p [] = Unit {0}
InRow s p (e ∷ es) = (is_read e.block e.i e.j ≡ true) × (row_place s e.block e.i ≡ p) × InRow s p es

pub here : (s : Sizes) (p : ℕ) (es : List Entry) → InRow s p es → filter (is_in_row s p) es ≡ es
here s p [] h = refl
here s p (e ∷ es) h =
    cond-true (is_in_row s p e) (e ∷ filter (is_in_row s p) es) (filter (is_in_row s p) es)
    (and_from _ _ h.0 (eq-eqb (row_place s e.block e.i) p h.1))
    ∙ ap (λ gs. e ∷ gs) (here s p es h.2)

pub elsewhere : (s : Sizes) (p r : ℕ) (es : List Entry) → (p ≡ r → ⊥) → InRow s p es → filter (is_in_row s r) es ≡ []
elsewhere s p r [] other h = refl
elsewhere s p r (e ∷ es) other h =
    cond-false (is_in_row s r e) (e ∷ filter (is_in_row s r) es) (filter (is_in_row s r) es)
    (and_right (is_read e.block e.i e.j) (eqb (row_place s e.block e.i) r)
    (ne_eqb (row_place s e.block e.i) r (λ same. other (sym h.1 ∙ same))))
    ∙ elsewhere s p r es other h.2

pub across_in : (s : Sizes) (p : ℕ) (b : Block) (i : ℕ) (cs : List Fraction) (j : ℕ) →
    ((j : ℕ) → is_read b i j ≡ true) → row_place s b i ≡ p → InRow s p (across b i j cs)
across_in s p b i [] j read place = tt
across_in s p b i (c ∷ cs) j read place = (read j, place, across_in s p b i cs (j + 1) read place)

-- rows one behind the other, from a place on
pub rows_elsewhere : (s : Sizes) (at r n : ℕ) (f : ℕ → List Entry) → ((i : ℕ) → i < n → InRow s (at + i) (f i)) →
    ((i : ℕ) → i < n → at + i ≡ r → ⊥) → filter (is_in_row s r) (joined n f) ≡ []
rows_elsewhere s at r zero f each other = refl
rows_elsewhere s at r (suc n) f each other =
    filter-append (is_in_row s r) (joined n f) (f n)
    ∙ ap₂ (λ x y. x ++ y)
    (rows_elsewhere s at r n f (λ i h. each i (omega arith)) (λ i h. other i (omega arith)))
    (elsewhere s (at + n) r (f n) (other n (omega arith)) (each n (omega arith)))

pub no_more : (es : List Entry) → es ++ [] ≡ es
no_more [] = refl
no_more (e ∷ es) = ap (λ gs. e ∷ gs) (no_more es)

pub rows_here : (s : Sizes) (at n : ℕ) (f : ℕ → List Entry) → ((i : ℕ) → i < n → InRow s (at + i) (f i)) → (j : ℕ) →
    j < n → filter (is_in_row s (at + j)) (joined n f) ≡ f j
rows_here s at zero f each j h = absurd (omega arith)
rows_here s at (suc n) f each j h =
    filter-append (is_in_row s (at + j)) (joined n f) (f n)
    ∙ by_place (λ below. rows_here s at n f (λ i h. each i (omega arith)) j below) (cases_lt j n)
  where
    by_place : (j < n → filter (is_in_row s (at + j)) (joined n f) ≡ f j) → (j < n) ⊎ (n ≤ j) →
        filter (is_in_row s (at + j)) (joined n f) ++ filter (is_in_row s (at + j)) (f n) ≡ f j
    by_place before (inl below) =
        ap₂ (λ x y. x ++ y) (before below)
        (elsewhere s (at + n) (at + j) (f n) (λ same. omega (arith, same, below)) (each n (omega arith)))
        ∙ no_more (f j)
    by_place before (inr high) =
        let last : j ≡ n = omega arith in
        rw last (ap₂ (λ x y. x ++ y)
        (rows_elsewhere s at (at + n) n f (λ i h. each i (omega arith)) (λ i h same. omega (arith, h, same)))
        (here s (at + n) (f n) (each n (omega arith))))
