-- One entry changes.
use Rattle.std.proofs.Common.{◌≡◌, ℕ, ◌+◌, ◌*◌, ◌<◌, ◌⊎◌, List, length, set, sym, ◌∙◌, ap, subst, inl, inr}
use mathlib.Core.Path.{fun_ext}
use Rattle.std.proofs.lemmas.Bool.{cases_eq, eq-eqb, ne_eqb, cond-true, cond-false, and_from, and_left, and_right}
use Rattle.fx_nums.specs.Fraction.{Fraction, zero_fraction}
use Rattle.fx_cross.specs.declared.cell.Cell.{Cell}
use Rattle.fx_cross.specs.Table.{Table, spot, entry_at, put}
use Rattle.fx_cross.specs.Cells.{coef_of, table_of}
use Rattle.fx_cross.proofs.Facts.{entry_is, SpotAfter, spot_after}
use Rattle.fx_cross.proofs.Spots.{spot_set_same}
use Rattle.fx_cross.proofs.Facts.SpotAfter.{same, other}

-- what holds c at one place, and elsewhere what was there, is put
pub is_put : (i j : ℕ) (c : Fraction) (at at' : ℕ → ℕ → Fraction) → at' i j ≡ c →
    ((a b : ℕ) → (a ≡ i → b ≡ j → ⊥) → at' a b ≡ at a b) → at' ≡ put i j c at
is_put i j c at at' here others = fun_ext (λ a. fun_ext (λ b. by_place a b (cases_eq a i) (cases_eq b j)))
  where
    by_place : (a b : ℕ) → (a ≡ i) ⊎ (a ≡ i → ⊥) → (b ≡ j) ⊎ (b ≡ j → ⊥) → at' a b ≡ put i j c at a b
    by_place a b (inl x) (inl y) = rw (x, y) here ∙ sym (cond-true _ _ _ (and_from _ _ (eq-eqb a i x) (eq-eqb b j y)))
    by_place a b (inr x) _ = others a b (λ h _. x h) ∙ sym (cond-false _ _ _ (and_left _ _ (ne_eqb a i x)))
    by_place a b (inl _) (inr y) = others a b (λ _ h. y h) ∙ sym (cond-false _ _ _ (and_right _ _ (ne_eqb b j y)))

-- the entries after a place is written and cells change
pub entries_put : (rows columns room i j p : ℕ) (c : Fraction) (places : List ℕ) (cells cells' : List Cell)
    (t : Table) →
    i < rows → j < columns → length places ≡ rows * columns → coef_of cells room ≡ zero_fraction →
    coef_of cells' room ≡ zero_fraction → coef_of cells' p ≡ c →
    ((a b : ℕ) → (a ≡ i → b ≡ j → ⊥) → coef_of cells' (spot rows columns room places a b)
    ≡ coef_of cells (spot rows columns room places a b)) →
    table_of rows columns room places cells ≡ t →
    entry_at (table_of rows columns room (set places (i * columns + j) p) cells') ≡ put i j c (entry_at t)
entries_put rows columns room i j p c places cells cells' t hi hj long e e' here others is =
    subst (λ (u : Table). entry_at (table_of rows columns room (set places (i * columns + j) p) cells')
    ≡ put i j c (entry_at u)) is
    (is_put i j c _ _ (new_is i j
    ∙ ap (coef_of cells') (spot_set_same rows columns room places i j p hi hj long) ∙ here) (λ a b ne.
    apart a b ne (spot_after rows columns room i j p a b places hi hj long)))
  where
    new_is : (a b : ℕ) → entry_at (table_of rows columns room (set places (i * columns + j) p) cells') a b
        ≡ coef_of cells' (spot rows columns room (set places (i * columns + j) p) a b)
    new_is a b = entry_is rows columns room (set places (i * columns + j) p) cells' a b e'

    apart : (a b : ℕ) → (a ≡ i → b ≡ j → ⊥) →
        SpotAfter rows columns room i j p a b places (set places (i * columns + j) p) →
        entry_at (table_of rows columns room (set places (i * columns + j) p) cells') a b
        ≡ entry_at (table_of rows columns room places cells) a b
    apart a b ne (same x y _) = absurd (ne x y)
    apart a b ne (other _ k) = new_is a b ∙ ap (coef_of cells') k ∙ others a b ne
        ∙ sym (entry_is rows columns room places cells a b e)
