use Rattle.std.proofs.Common.{◌≡◌, ℕ, ◌+◌, ◌<◌, length}
use Rattle.fx_sweep.specs.Swept.{width_at, whole_in}
use Rattle.fx_totals.proofs.filling.copy_widths.Given as goal
use Rattle.fx_totals.specs.Kept.{AreUpTo, greatest_sum_of_widths}

abbrev pub invariant-loop-i : goal.invariant-loop-i
invariant-loop-i g l = record {
  long : length l.at ≡ length l.initial.at;
  done : (k : ℕ) → k < l.i → whole_in l.at (l.place + k) ≡ width_at l.sweep k;
  before : (k : ℕ) → k < l.place → whole_in l.at k ≡ whole_in l.initial.at k;
  fit : AreUpTo greatest_sum_of_widths l.at;
}
