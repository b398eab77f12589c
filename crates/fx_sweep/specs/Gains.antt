-- What a sweep has added up after m moments, at the scale 2 ^ -64.
use Rattle.std.specs.Prelude.{ℕ, ℤ, unsigned_abs}
use Rattle.fx_math.specs.Sums.{total, sum_below}
use Rattle.fx_nums.specs.Arithmetic.{width}
use Rattle.fx_nums.specs.Interval.{Interval, magnitude}
use Rattle.fx_net.specs.Net.{Net}
use Rattle.fx_sweep.specs.Weights.{carried, settled, inputs}

-- what was cut off the intervals of row i as they became weights
abbrev pub widths : Net → (ℕ → Interval) → ℕ → ℕ → ℤ
widths net start m i = total m (λ n. width (settled net start n i))

-- the magnitudes of the weights of row i
abbrev pub row_gain : Net → (ℕ → Interval) → ℕ → ℕ → ℕ
row_gain net start m i = sum_below m (λ n. unsigned_abs (settled net start n i).lo)

-- the magnitudes of the intervals of input j
abbrev pub input_gain : Net → (ℕ → Interval) → ℕ → ℕ → ℕ
input_gain net start m j = sum_below m (λ n. magnitude (inputs net start n j))

-- the magnitude of what is still carried to row i
abbrev pub rest : Net → (ℕ → Interval) → ℕ → ℕ → ℕ
rest net start m i = magnitude (carried net start m i)
