-- The weights of the inputs, moment after moment in one list.
use Rattle.std.specs.Prelude.{◌≡◌, ℕ, ◌+◌, ◌*◌, ◌^◌, ◌<◌, List, length}
use Rattle.fx_eqs.specs.declared.limits.TheConstants.{PORTS}
use Rattle.fx_net.specs.Net.{Net}
use Rattle.fx_nums.specs.Interval.{Interval}
use Rattle.fx_nums.specs.declared.limits.TheConstants.{OPERAND_BITS}
use Rattle.fx_sweep.specs.Gains.{input_gain}
use Rattle.fx_sweep.specs.Swept.{interval_in}
use Rattle.fx_sweep.specs.Weights.{inputs}

-- those of a sweep, whose magnitudes add up to gains below the limit
pub record AreWeights (net : Net) (start : ℕ → Interval) (moments : ℕ) (weights : List Interval) : Type 0 where
  pub long : length weights ≡ moments * PORTS
  pub each : (n j : ℕ) → n < moments → j < PORTS → interval_in weights (n * PORTS + j) ≡ inputs net start n j
  pub small : (j : ℕ) → j < PORTS → input_gain net start moments j < 2 ^ OPERAND_BITS
