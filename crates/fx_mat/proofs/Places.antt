-- Entries of a matrix of fractions, read from the list of its entries.
use Rattle.std.proofs.Common.{◌≡◌, ℕ, ◌+◌, ◌*◌, ◌<◌, List, length, get_or, set, replicate, subst}
use Rattle.fx_nums.specs.Fraction.{Fraction, zero_fraction}
use Rattle.fx_mat.specs.Entries.{no_entries, put, IsZeroOutside}
use Rattle.fx_mat.specs.Matrix.{Matrix, entry_at}
use Rattle.fx_mat.proofs.Grid.{inside, below, past, written, filled, read}

-- the matrix of a list
abbrev pub matrix_of : ℕ → ℕ → List Fraction → Matrix
matrix_of rows columns xs = record { rows = rows; columns = columns; entries = xs }

-- an entry in range stands in the list
pub entry_inside : (rows columns : ℕ) (xs : List Fraction) (i j : ℕ) → i < rows → j < columns →
    entry_at (matrix_of rows columns xs) i j ≡ get_or xs (i * columns + j) zero_fraction
unfolding entry_at
entry_inside rows columns xs i j h k = inside zero_fraction rows columns xs i j h k

-- each entry outside is zero
outside : (rows columns : ℕ) (xs : List Fraction) → IsZeroOutside rows columns (entry_at (matrix_of rows columns xs))
unfolding entry_at
outside rows columns xs = record {
  below_rows = below zero_fraction rows columns xs;
  past_columns = past zero_fraction rows columns xs;
}

pub zero_outside : (rows columns : ℕ) (xs : List Fraction) (m : Matrix) → matrix_of rows columns xs ≡ m →
    IsZeroOutside rows columns (entry_at m)
zero_outside rows columns xs m e =
    subst (λ (n : Matrix). IsZeroOutside rows columns (entry_at n)) e (outside rows columns xs)

-- what an index reads, at any default
pub read_same : (xs : List Fraction) (i : ℕ) (x : Fraction) → x ≡ get_or xs i x → i < length xs →
    get_or xs i zero_fraction ≡ x
read_same xs i x r h = read zero_fraction xs i x r h

-- a write to the list puts the entry
pub written_in : (rows columns : ℕ) (xs : List Fraction) (i j : ℕ) (c : Fraction) → i < rows → j < columns →
    length xs ≡ rows * columns →
    entry_at (matrix_of rows columns (set xs (i * columns + j) c)) ≡ put i j c (entry_at (matrix_of rows columns xs))
unfolding entry_at
written_in rows columns xs i j c h k e = written zero_fraction rows columns xs i j c h k e

-- a list of as many zeros as there are places is a matrix of zeros
pub all_zero : (rows columns n : ℕ) (xs : List Fraction) (z : Fraction) → xs ≡ replicate n z →
    z ≡ zero_fraction → n ≡ rows * columns → entry_at (matrix_of rows columns xs) ≡ no_entries
unfolding entry_at
all_zero rows columns n xs z e f k = filled zero_fraction rows columns n xs z e f k
