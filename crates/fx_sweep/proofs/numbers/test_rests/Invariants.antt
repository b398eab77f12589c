use Rattle.std.proofs.Common.{◌≡◌, ℕ, ◌<◌, ◌≤◌, None}
use Rattle.fx_math.specs.Sums.{joined}
use Rattle.fx_nums.specs.Interval.{magnitude}
use Rattle.fx_sweep.specs.Range.{first_range}
use Rattle.fx_sweep.specs.Steps.{greatest, rest_places, rest_value}
use Rattle.fx_sweep.specs.Swept.{interval_in}
use Rattle.fx_sweep.proofs.numbers.test_rests.Given as goal

abbrev pub invariant-loop-i : goal.invariant-loop-i
invariant-loop-i l = record {
  passed : first_range (rest_value (interval_in l.carried)) (joined l.i rest_places) ≡ None;
  small : (k : ℕ) → k < l.i → magnitude (interval_in l.carried k) ≤ greatest;
}
