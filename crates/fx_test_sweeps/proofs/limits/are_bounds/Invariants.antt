use Rattle.std.proofs.Common.{ℕ, ◌<◌}
use Rattle.fx_sweep.specs.Swept.{whole_in}
use Rattle.fx_totals.specs.Kept.{IsUpTo, greatest_bound}
use Rattle.fx_test_sweeps.proofs.limits.are_bounds.Given as goal

abbrev pub invariant-loop-i : goal.invariant-loop-i
invariant-loop-i l = (k : ℕ) → k < l.i → IsUpTo greatest_bound (whole_in l.bounds k)
