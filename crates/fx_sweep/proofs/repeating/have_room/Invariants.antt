use Rattle.std.proofs.Common.{ℕ, ◌+◌, ◌*◌, ◌<◌, ◌≤◌}
use Rattle.fx_nums.specs.Interval.{magnitude}
use Rattle.fx_sweep.specs.Steps.{greatest}
use Rattle.fx_sweep.specs.Swept.{gain_in, interval_in}
use Rattle.fx_sweep.proofs.repeating.have_room.Given as goal

abbrev pub invariant-loop-i : goal.invariant-loop-i
invariant-loop-i l = (k : ℕ) → k < l.i → gain_in l.gains k + l.times * magnitude (interval_in l.by k) ≤ greatest
