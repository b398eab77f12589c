-- Entries of matrices as functions of row and column.
use Rattle.std.specs.Prelude.{◌≡◌, ℕ, ◌≤◌, ◌==◌, ◌&&◌, cond}
use Rattle.fx_nums.specs.Fraction.{Fraction}
pub use Rattle.fx_nums.specs.Fraction.{zero_fraction}

-- the entries of a matrix of zeros
abbrev pub no_entries : ℕ → ℕ → Fraction
no_entries i j = zero_fraction

-- the entries with c in row i and column j
abbrev pub put : ℕ → ℕ → Fraction → (ℕ → ℕ → Fraction) → ℕ → ℕ → Fraction
put i j c at p q = cond (p == i && q == j) c (at p q)

-- the entries with a column in place of column j
abbrev pub put_column : ℕ → (ℕ → Fraction) → (ℕ → ℕ → Fraction) → ℕ → ℕ → Fraction
put_column j column at p q = cond (q == j) (column p) (at p q)

-- the entries with row and column exchanged
abbrev pub transposed : (ℕ → ℕ → Fraction) → ℕ → ℕ → Fraction
transposed at i j = at j i

-- each entry outside so many rows and columns is zero
pub record IsZeroOutside (rows columns : ℕ) (at : ℕ → ℕ → Fraction) : Type 0 where
  pub below_rows : (i j : ℕ) → rows ≤ i → at i j ≡ zero_fraction
  pub past_columns : (i j : ℕ) → columns ≤ j → at i j ≡ zero_fraction
