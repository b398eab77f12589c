use Rattle.std.proofs.Common.{◌≡◌, ◌+◌, ◌-◌, ◌≤◌, length}
use Rattle.fx_net.specs.Tables.{net_of}
use Rattle.fx_sweep.specs.Swept.{Swept}
use Rattle.fx_totals.proofs.series.sweep_target.Given as goal
use Rattle.fx_totals.specs.Filled.{target_in}
use Rattle.fx_totals.specs.Series.{AreSoFar}

abbrev pub invariant-loop-moments : goal.invariant-loop-moments
invariant-loop-moments g l = record {
  long : length l.parts ≡ length l.initial.parts;
  swept : Swept l.sweep (net_of l.net) (target_in l.targets l.t) l.moments;
  so_far : AreSoFar l.parts (net_of l.net) l.targets l.lengths l.t l.moments;
  made : l.sweep.made ≤ l.initial.sweep.made + l.moments;
  few : l.moments ≤ l.longest;
}

abbrev pub decreases-loop-moments : goal.decreases-loop-moments
decreases-loop-moments g l = l.longest - l.moments
