use Rattle.std.proofs.Common.{◌≡◌, ℕ, ◌+◌, ◌*◌, ◌<◌, ◌≤◌, length}
use Rattle.fx_nums.specs.Interval.{magnitude}
use Rattle.fx_sweep.specs.Steps.{GainsFit}
use Rattle.fx_sweep.specs.Swept.{gain_in, interval_in}
use Rattle.fx_sweep.proofs.repeating.raise_inputs.Given as goal

abbrev pub invariant-loop-j : goal.invariant-loop-j
invariant-loop-j l = record {
  long : length l.gains ≡ length l.initial.gains;
  done : (k : ℕ) → k < l.j →
      gain_in l.gains k ≡ gain_in l.initial.gains k + l.times * magnitude (interval_in l.inputs k);
  left : (k : ℕ) → l.j ≤ k → gain_in l.gains k ≡ gain_in l.initial.gains k;
  fit : GainsFit l.gains;
}
