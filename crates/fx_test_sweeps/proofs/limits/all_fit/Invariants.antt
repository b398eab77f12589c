use Rattle.std.proofs.Common.{ℕ, ◌<◌}
use Rattle.fx_sweep.specs.Target.{TargetFits}
use Rattle.fx_totals.specs.Filled.{target_in}
use Rattle.fx_test_sweeps.proofs.limits.all_fit.Given as goal

abbrev pub invariant-loop-t : goal.invariant-loop-t
invariant-loop-t g l = (s : ℕ) → s < l.t → TargetFits g.row.N (target_in l.targets s)
