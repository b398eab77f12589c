-- The net of a program and equations, and a run of a net whose first rows are those of a program.
use Rattle.std.specs.Prelude.{ℕ, ◌+◌, ◌^◌, nat_lt, cond, ℤ, pos, ◌-ℤ◌, ◌*ℤ◌, length}
use Rattle.fx_math.specs.Unroll.{Step, unroll}
use Rattle.fx_eqs.specs.Equations.{Equations}
use Rattle.fx_eqs.specs.Expanded.{expanded, row_place}
use Rattle.fx_net.specs.Net.{Net}
use Rattle.fx_net.specs.Run.{row_reads, row_sum, row_time}
use Rattle.fx_code.specs.Code.{Code}
use Rattle.fx_code.specs.Joint.{joint_net}
use Rattle.fx_block.specs.Ideal.{ideal}

-- the rows of the program have their numbers without wrapping, the other rows what they read
abbrev pub joint_step : Net → Code → ℕ → (ℕ → ℕ → ℤ) → Step
joint_step net p q u k i now old =
    cond (nat_lt i (length p.rows)) (ideal p u k i *ℤ pos (q ^ (row_time net k i + 1))) (row_reads net q u k i now old)

-- the values of that run, over the denominator q
abbrev pub joint_values : Net → Code → ℕ → (ℕ → ℕ → ℤ) → ℕ → ℕ → ℤ
joint_values net p q u = unroll net.rows (joint_step net p q u)

-- by how much each value differs from what its row reads
abbrev pub perturbations_of : Net → ℕ → (ℕ → ℕ → ℤ) → (ℕ → ℕ → ℤ) → ℕ → ℕ → ℤ
perturbations_of net q u z k i = z k i -ℤ row_sum net q u z k i

-- ---- a program and equations

-- the rows of the program and the expanded rows
abbrev pub count_of : Code → Equations → ℕ
count_of p eqs = length p.rows + length (expanded eqs)

-- the net of both, with no rows behind them
abbrev pub net_of : Code → Equations → Net
net_of p eqs = joint_net (count_of p eqs) p eqs

-- where row i of the equations stands there
abbrev pub original_row : Code → Equations → ℕ → ℕ
original_row p eqs i = length p.rows + row_place eqs i
