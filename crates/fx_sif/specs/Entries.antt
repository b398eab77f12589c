-- Entries of an implicit form that stand in one row, or in rows one behind the other.
use Rattle.std.specs.Prelude.{ℕ, zero, suc, ◌+◌, List, [], ◌∷◌, slice_index_or}
use Rattle.fx_math.specs.Sums.{joined}
use Rattle.fx_nums.specs.Fraction.{Fraction, one_fraction, zero_fraction}
use Rattle.fx_sif.specs.declared.parts.Block.{Block}
use Rattle.fx_sif.specs.declared.parts.Block.TheVariants.{P}
use Rattle.fx_sif.specs.declared.parts.Entry.{Entry}

-- coefficient i of a list; 0 where it has none
abbrev pub coefficient : List Fraction → ℕ → Fraction
coefficient cs i = slice_index_or cs i zero_fraction

abbrev pub entry : Block → ℕ → ℕ → Fraction → Entry
entry block i j c = record { block = block; i = i; j = j; coef = c }

-- coefficients of one row of a block, in this column and the next ones
abbrev pub across : Block → ℕ → ℕ → List Fraction → List Entry
across block i j [] = []
across block i j (c ∷ cs) = entry block i j c ∷ across block i (j + 1) cs

-- states from a place on that pass a value on: the first takes what a column of the block reads, each further one the
-- state before it
abbrev pub delay_row : Block → ℕ → ℕ → ℕ → List Entry
delay_row block column at zero = entry block at column one_fraction ∷ []
delay_row block column at (suc i) = entry P (at + i + 1) (at + i) one_fraction ∷ []

-- so many of them
abbrev pub delays : Block → ℕ → ℕ → ℕ → List Entry
delays block column at n = joined n (delay_row block column at)
