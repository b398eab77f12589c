-- Sums over links.
use Rattle.std.specs.Prelude.{◌≡◌, ℕ, ℤ, pos, ◌+ℤ◌, List, [], ◌∷◌}
use Rattle.fx_math.specs.Sums.{total}
use Rattle.fx_nums.specs.Fraction.{Fraction}
use Rattle.fx_cross.specs.declared.cross.Link.{Link}
use Rattle.fx_cross.specs.Table.{Table, entry_at, IsZero}
use Rattle.fx_cross.specs.Walks.{row_links, column_links}

-- the sum over links of what each gives
abbrev pub links_total : (ℕ → Fraction → ℤ) → List Link → ℤ
links_total f [] = pos 0
links_total f (link ∷ links) = f link.index link.coef +ℤ links_total f links

-- f gives 0 for a fraction of value 0
abbrev pub NeedsNonzero : (ℕ → Fraction → ℤ) → Type 0
NeedsNonzero f = (k : ℕ) (c : Fraction) → IsZero c → f k c ≡ pos 0

-- the sum over the links of a row is the sum over its columns
abbrev pub RowsSumOverLinks : Type 0
RowsSumOverLinks = (t : Table) (i : ℕ) (f : ℕ → Fraction → ℤ) → NeedsNonzero f →
    links_total f (row_links t i) ≡ total t.columns (λ k. f k (entry_at t i k))

-- the sum over the links of a column is the sum over its rows
abbrev pub ColumnsSumOverLinks : Type 0
ColumnsSumOverLinks = (t : Table) (j : ℕ) (f : ℕ → Fraction → ℤ) → NeedsNonzero f →
    links_total f (column_links t j) ≡ total t.rows (λ k. f k (entry_at t k j))
