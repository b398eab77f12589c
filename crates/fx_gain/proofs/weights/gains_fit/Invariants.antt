use Rattle.std.proofs.Common.{ℕ, ◌^◌, ◌<◌}
use Rattle.fx_nums.specs.declared.limits.TheConstants.{OPERAND_BITS}
use Rattle.fx_sweep.specs.Swept.{input_gain_at}
use Rattle.fx_gain.proofs.weights.gains_fit.Given as goal

abbrev pub invariant-loop-j : goal.invariant-loop-j
invariant-loop-j g l = (k : ℕ) → k < l.j → input_gain_at l.sweep k < 2 ^ OPERAND_BITS
