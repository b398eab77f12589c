use Rattle.std.proofs.Common.{◌≡◌, ℕ, ◌+◌, ◌<◌, length}
use Rattle.fx_sweep.specs.Swept.{input_at, interval_in}
use Rattle.fx_gain.proofs.weights.copy_inputs.Given as goal

abbrev pub invariant-loop-j : goal.invariant-loop-j
invariant-loop-j g l = record {
  long : length l.at ≡ length l.initial.at;
  done : (k : ℕ) → k < l.j → interval_in l.at (l.place + k) ≡ input_at l.sweep k;
  before : (k : ℕ) → k < l.place → interval_in l.at k ≡ interval_in l.initial.at k;
}
