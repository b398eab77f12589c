-- Matrices of intervals, and their products with matrices of fractions.
use Rattle.std.specs.Prelude.{◌≡◌, ℕ, ◌+◌, ◌*◌, ◌<◌, ◌≤◌, ◌==◌, ◌&&◌, cond, nat_lt, slice_index_or, List, ℤ, pos, ◌*ℤ◌}
use Rattle.fx_math.specs.Sums.{total}
use Rattle.fx_nums.specs.Arithmetic.{multiple, scaled}
use Rattle.fx_nums.specs.Enclosing.{Encloses}
use Rattle.fx_nums.specs.Fraction.{Fraction, IsWholeOver, over}
use Rattle.fx_nums.specs.Interval.{Interval, IntervalFits, plus, point}

-- the entries of a matrix, row after row
pub record IntervalMatrix : Type 0 where
  pub rows : ℕ
  pub columns : ℕ
  pub entries : List Interval

-- the number 0
abbrev pub zero_interval : Interval
zero_interval = point (pos 0)

-- the entry of row i and column j, zero outside
unfoldable pub interval_at : IntervalMatrix → ℕ → ℕ → Interval
interval_at m i j = cond (nat_lt i m.rows && nat_lt j m.columns)
    (slice_index_or m.entries (i * m.columns + j) zero_interval) zero_interval

-- the entries of a matrix of zeros
abbrev pub no_intervals : ℕ → ℕ → Interval
no_intervals i j = zero_interval

-- each entry outside so many rows and columns is zero
pub record NoneOutside (rows columns : ℕ) (at : ℕ → ℕ → Interval) : Type 0 where
  pub below_rows : (i j : ℕ) → rows ≤ i → at i j ≡ zero_interval
  pub past_columns : (i j : ℕ) → columns ≤ j → at i j ≡ zero_interval

-- the entries with v in row i and column j
abbrev pub put_interval : ℕ → ℕ → Interval → (ℕ → ℕ → Interval) → ℕ → ℕ → Interval
put_interval i j v at p q = cond (p == i && q == j) v (at p q)

-- the entries of row i up to column n with the multiples of a row of fractions by p added
abbrev pub with_multiples : ℕ → ℤ → (ℕ → Fraction) → ℕ → (ℕ → ℕ → Interval) → ℕ → ℕ → Interval
with_multiples i p row n at k j = cond (k == i && nat_lt j n) (plus (at k j) (multiple p (row j))) (at k j)

-- each entry of a row of so many fits the bits
abbrev pub RowFits : ℕ → ℕ → (ℕ → Interval) → Type 0
RowFits bits columns row = (j : ℕ) → j < columns → IntervalFits (row j) bits

-- each entry fits the bits
abbrev pub EntriesFit : ℕ → ℕ → ℕ → (ℕ → ℕ → Interval) → Type 0
EntriesFit bits rows columns at = (i j : ℕ) → i < rows → j < columns → IntervalFits (at i j) bits

-- the product of a row with a column, of n entries each
abbrev pub row_by_column : ℕ → (ℕ → Interval) → (ℕ → Fraction) → Interval
row_by_column n row column = record {
  lo = total n (λ k. (scaled (row k) (column k)).lo);
  hi = total n (λ k. (scaled (row k) (column k)).hi);
}

-- v has each sum of n numbers of the row times the fractions of the column: the numbers are x / den, the fractions are
-- whole over q
abbrev pub EnclosesSums : ℕ → (ℕ → Interval) → (ℕ → Fraction) → Interval → Type 0
EnclosesSums n row column v = (x : ℕ → ℤ) (den q : ℕ) →
    ((k : ℕ) → k < n → Encloses (row k) (record { num = x k; den = den })) →
    ((k : ℕ) → k < n → IsWholeOver q (column k)) →
    Encloses v (record { num = total n (λ k. x k *ℤ over q (column k)); den = den * q })

-- v is the product of a row with a column, each sum of the numbers within it
pub record IsRowByColumn (n : ℕ) (row : ℕ → Interval) (column : ℕ → Fraction) (v : Interval) : Type 0 where
  pub value : v ≡ row_by_column n row column
  pub encloses : EnclosesSums n row column v

-- the first rows and columns of a product of matrices, n being the columns of the first and the rows of the other
abbrev pub IsProductBelow : ℕ → ℕ → ℕ → (ℕ → ℕ → Interval) → (ℕ → ℕ → Fraction) → (ℕ → ℕ → Interval) → Type 0
IsProductBelow rows columns n a b out = (i j : ℕ) → i < rows → j < columns →
    IsRowByColumn n (a i) (λ k. b k j) (out i j)
