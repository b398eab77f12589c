use Rattle.std.proofs.Common.{◌≡◌, ℕ, ◌+◌, ◌<◌, length, pos}
use Rattle.fx_sweep.specs.Swept.{input_gain_at, whole_in}
use Rattle.fx_totals.proofs.filling.copy_gains.Given as goal
use Rattle.fx_totals.specs.Kept.{AreUpTo, greatest_gain}

abbrev pub invariant-loop-j : goal.invariant-loop-j
invariant-loop-j g l = record {
  long : length l.at ≡ length l.initial.at;
  done : (k : ℕ) → k < l.j → whole_in l.at (l.place + k) ≡ pos (input_gain_at l.sweep k);
  before : (k : ℕ) → k < l.place → whole_in l.at k ≡ whole_in l.initial.at k;
  fit : AreUpTo greatest_gain l.at;
}
