use Rattle.std.proofs.Common.{◌≡◌, ℕ, ◌+◌, ◌*◌, ◌≤◌, length}
use Rattle.fx_net.specs.Tables.{net_of}
use Rattle.fx_totals.proofs.series.sweep_targets.Given as goal
use Rattle.fx_totals.specs.Series.{AreSoFar, AreUpToLength}

abbrev pub invariant-loop-t : goal.invariant-loop-t
invariant-loop-t g l = record {
  long : length l.parts ≡ length l.initial.parts;
  so_far : AreSoFar l.parts (net_of l.net) l.targets l.lengths l.t 0;
  made : (most : ℕ) → AreUpToLength most l.lengths → l.sweep.made ≤ l.initial.sweep.made + l.t * most;
}
