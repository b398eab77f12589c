-- The total of a target: a bound of it from what was swept in m moments, for bounds of the inputs' words and of the
-- rows.
use Rattle.std.specs.Prelude.{ℕ, ℤ, pos, ◌+ℤ◌, ◌*ℤ◌, ◌*◌}
use Rattle.fx_math.specs.Division.{ceil_div}
use Rattle.fx_math.specs.Sums.{total}
use Rattle.fx_eqs.specs.declared.limits.TheConstants.{PORTS}
use Rattle.fx_nums.specs.Interval.{Interval}
use Rattle.fx_net.specs.Net.{Net}
use Rattle.fx_sweep.specs.Gains.{widths, row_gain, input_gain, rest}

-- what the inputs add: their gains times their bounds
abbrev pub input_part : Net → (ℕ → Interval) → ℕ → (ℕ → ℕ) → ℤ
input_part net start m bounds = total PORTS (λ j. pos (input_gain net start m j * bounds j))

-- what the rows' roundings add: half of their gains times their classes, rounded up
abbrev pub rounding : Net → (ℕ → Interval) → ℕ → ℤ
rounding net start m = ceil_div (total net.rows (λ i. pos (row_gain net start m i * net.class i))) 2

-- what was cut off the weights: widths times the rows' bounds
abbrev pub width_part : Net → (ℕ → Interval) → ℕ → (ℕ → ℕ) → ℤ
width_part net start m rows = total net.rows (λ i. widths net start m i *ℤ pos (rows i))

-- what lies before the block: rests times the rows' bounds
abbrev pub rest_part : Net → (ℕ → Interval) → ℕ → (ℕ → ℕ) → ℤ
rest_part net start m rows = total net.rows (λ i. pos (rest net start m i * rows i))

-- all four
abbrev pub target_total : Net → (ℕ → Interval) → ℕ → (ℕ → ℕ) → (ℕ → ℕ) → ℤ
target_total net start m bounds rows =
    input_part net start m bounds +ℤ rounding net start m +ℤ width_part net start m rows +ℤ rest_part net start m rows
