use Rattle.std.proofs.Common.{◌≡◌, ℕ, ◌+◌, ◌<◌, ◌≤◌, None, length}
use Rattle.fx_math.specs.Sums.{joined}
use Rattle.fx_eqs.specs.declared.limits.TheConstants.{PORTS}
use Rattle.fx_nums.specs.Interval.{magnitude}
use Rattle.fx_sweep.specs.Range.{first_range}
use Rattle.fx_sweep.specs.Steps.{GainsFit, input_places, input_value}
use Rattle.fx_sweep.specs.Swept.{gain_in, interval_in}
use Rattle.fx_sweep.proofs.numbers.add_inputs.Given as goal

abbrev pub invariant-loop-j : goal.invariant-loop-j
invariant-loop-j l = record {
  long : length l.gains ≡ PORTS;
  passed : first_range (input_value (interval_in l.inputs) (gain_in l.initial.gains)) (joined l.j input_places) ≡ None;
  done : (k : ℕ) → k < l.j → gain_in l.gains k ≡ gain_in l.initial.gains k + magnitude (interval_in l.inputs k);
  left : (k : ℕ) → l.j ≤ k → gain_in l.gains k ≡ gain_in l.initial.gains k;
  fit : GainsFit l.gains;
}
