-- What the words of a program would be without wrapping, and when they are.
use Rattle.std.specs.Prelude.{ℕ, ◌^◌, ℤ, pos, length}
use Rattle.fx_math.specs.Division.{floor_div}
use Rattle.fx_math.specs.Unroll.{Step, unroll}
use Rattle.fx_msb.specs.Widths.{Fits, AccumulatorFits}
use Rattle.fx_code.specs.Code.{Code, row_at}
use Rattle.fx_code.specs.Run.{whole_sum}

-- row i stores its whole-number sum, floored by the shift
abbrev pub ideal_step : Code → (ℕ → ℕ → ℤ) → Step
ideal_step p u k i now old = floor_div (whole_sum (row_at p i) now old (u k)) (2 ^ (row_at p i).own.shift)

-- moment, then row
abbrev pub ideal : Code → (ℕ → ℕ → ℤ) → ℕ → ℕ → ℤ
ideal p u = unroll (length p.rows) (ideal_step p u)

-- the word of row i takes each number up to x in magnitude, and its accumulator each sum whose floor is one
pub record WidthsHold (p : Code) (i x : ℕ) : Type 0 where
  pub word : Fits (pos x) (row_at p i).width
  pub sum : AccumulatorFits (pos x) (row_at p i).own.shift p.accumulator
