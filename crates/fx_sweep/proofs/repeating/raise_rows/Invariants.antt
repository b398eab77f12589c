use Rattle.std.proofs.Common.{◌≡◌, ℕ, ◌+◌, ◌*◌, ◌<◌, ◌≤◌, length, unsigned_abs}
use Rattle.fx_sweep.specs.Steps.{GainsFit}
use Rattle.fx_sweep.specs.Swept.{gain_in, interval_in}
use Rattle.fx_sweep.proofs.repeating.raise_rows.Given as goal

abbrev pub invariant-loop-i : goal.invariant-loop-i
invariant-loop-i l = record {
  long : length l.gains ≡ length l.initial.gains;
  done : (k : ℕ) → k < l.i →
      gain_in l.gains k ≡ gain_in l.initial.gains k + l.times * unsigned_abs (interval_in l.weights k).lo;
  left : (k : ℕ) → l.i ≤ k → gain_in l.gains k ≡ gain_in l.initial.gains k;
  fit : GainsFit l.gains;
}
