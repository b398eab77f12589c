-- Matrices of fractions.
use Rattle.std.specs.Prelude.{ℕ, List, ◌+◌, ◌*◌, ◌&&◌, cond, nat_lt, slice_index_or}
use Rattle.fx_nums.specs.Fraction.{Fraction, zero_fraction}

-- the entries of a matrix, row after row
pub record Matrix : Type 0 where
  pub rows : ℕ
  pub columns : ℕ
  pub entries : List Fraction

-- the entry of row i and column j, zero outside
unfoldable pub entry_at : Matrix → ℕ → ℕ → Fraction
entry_at m i j = cond (nat_lt i m.rows && nat_lt j m.columns)
    (slice_index_or m.entries (i * m.columns + j) zero_fraction) zero_fraction
