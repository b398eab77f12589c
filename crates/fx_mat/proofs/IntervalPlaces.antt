-- Entries of a matrix of intervals, read from the list of its entries.
use Rattle.std.proofs.Common.{◌≡◌, ℕ, ◌+◌, ◌*◌, ◌<◌, List, length, get_or, set, replicate, subst}
use Rattle.fx_nums.specs.Interval.{Interval}
use Rattle.fx_mat.specs.Intervals.{IntervalMatrix, NoneOutside, interval_at, no_intervals, put_interval, zero_interval}
use Rattle.fx_mat.proofs.Grid.{inside, below, past, written, filled, read}

-- the matrix of a list
abbrev pub matrix_of : ℕ → ℕ → List Interval → IntervalMatrix
matrix_of rows columns xs = record { rows = rows; columns = columns; entries = xs }

-- an entry in range stands in the list
pub entry_inside : (rows columns : ℕ) (xs : List Interval) (i j : ℕ) → i < rows → j < columns →
    interval_at (matrix_of rows columns xs) i j ≡ get_or xs (i * columns + j) zero_interval
unfolding interval_at
entry_inside rows columns xs i j h k = inside zero_interval rows columns xs i j h k

-- each entry outside is zero
outside : (rows columns : ℕ) (xs : List Interval) → NoneOutside rows columns (interval_at (matrix_of rows columns xs))
unfolding interval_at
outside rows columns xs = record {
  below_rows = below zero_interval rows columns xs;
  past_columns = past zero_interval rows columns xs;
}

pub zero_outside : (rows columns : ℕ) (xs : List Interval) (m : IntervalMatrix) →
    matrix_of rows columns xs ≡ m → NoneOutside rows columns (interval_at m)
zero_outside rows columns xs m e =
    subst (λ (n : IntervalMatrix). NoneOutside rows columns (interval_at n)) e (outside rows columns xs)

-- what an index reads, at any default
pub read_same : (xs : List Interval) (i : ℕ) (x : Interval) → x ≡ get_or xs i x → i < length xs →
    get_or xs i zero_interval ≡ x
read_same xs i x r h = read zero_interval xs i x r h

-- a write to the list puts the entry
pub written_in : (rows columns : ℕ) (xs : List Interval) (i j : ℕ) (v : Interval) → i < rows → j < columns →
    length xs ≡ rows * columns →
    interval_at (matrix_of rows columns (set xs (i * columns + j) v))
    ≡ put_interval i j v (interval_at (matrix_of rows columns xs))
unfolding interval_at
written_in rows columns xs i j v h k e = written zero_interval rows columns xs i j v h k e

-- a list of as many zeros as there are places is a matrix of zeros
pub all_zero : (rows columns n : ℕ) (xs : List Interval) (z : Interval) → xs ≡ replicate n z →
    z ≡ zero_interval → n ≡ rows * columns → interval_at (matrix_of rows columns xs) ≡ no_intervals
unfolding interval_at
all_zero rows columns n xs z e f k = filled zero_interval rows columns n xs z e f k
