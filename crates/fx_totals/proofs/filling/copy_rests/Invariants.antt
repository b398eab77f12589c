use Rattle.std.proofs.Common.{◌≡◌, ℕ, ◌+◌, ◌<◌, length, pos}
use Rattle.fx_nums.specs.Interval.{magnitude}
use Rattle.fx_sweep.specs.Swept.{carried_at, whole_in}
use Rattle.fx_totals.proofs.filling.copy_rests.Given as goal
use Rattle.fx_totals.specs.Kept.{AreUpTo, greatest_gain}

abbrev pub invariant-loop-i : goal.invariant-loop-i
invariant-loop-i g l = record {
  long : length l.at ≡ length l.initial.at;
  done : (k : ℕ) → k < l.i → whole_in l.at (l.place + k) ≡ pos (magnitude (carried_at l.sweep k));
  before : (k : ℕ) → k < l.place → whole_in l.at k ≡ whole_in l.initial.at k;
  fit : AreUpTo greatest_gain l.at;
}
