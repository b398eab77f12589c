-- The implicit form of a state space: x' = A x + B u and y = C x + D u, with no intermediate variable.
use Rattle.std.specs.Prelude.{ℕ, List, ◌++◌}
use Rattle.fx_math.specs.Sums.{joined}
use Rattle.fx_nums.specs.Fraction.{Fraction}
use Rattle.fx_eqs.specs.Equations.{Equations}
use Rattle.fx_eqs.specs.Textbook.{ss_equations}
use Rattle.fx_eqs.specs.TextbookRuns.{matrix_row}
use Rattle.fx_sif.specs.Entries.{across}
use Rattle.fx_sif.specs.Implicit.{Implicit}
use Rattle.fx_sif.specs.declared.parts.Block.{Block}
use Rattle.fx_sif.specs.declared.parts.Block.TheVariants.{P, Q, R, S}
use Rattle.fx_sif.specs.declared.parts.Entry.{Entry}
use Rattle.fx_sif.specs.declared.parts.Sizes.{Sizes}
use Rattle.fx_space.specs.Matrices.{matrix_a, matrix_b, matrix_c, matrix_d}

-- a matrix of so many rows and columns as a block
abbrev pub block_of : Block → ℕ → ℕ → List Fraction → List Entry
block_of block rows columns entries = joined rows (λ i. across block i 0 (matrix_row columns entries i))

-- A, B, C and D, row after row
abbrev pub space_entries : Sizes → List Fraction → List Entry
space_entries s abcd =
    block_of P s.x s.x (matrix_a s abcd) ++ block_of Q s.x s.u (matrix_b s abcd)
    ++ block_of R s.y s.x (matrix_c s abcd) ++ block_of S s.y s.u (matrix_d s abcd)

abbrev pub space_form : Sizes → List Fraction → Implicit
space_form s abcd = record { sizes = s; entries = space_entries s abcd }

-- the equations of the state space
abbrev pub space_equations : Sizes → List Fraction → Equations
space_equations s abcd =
    ss_equations s.x s.u s.y (matrix_a s abcd) (matrix_b s abcd) (matrix_c s abcd) (matrix_d s abcd)
