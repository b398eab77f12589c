use Rattle.std.proofs.Common.{◌+◌, ◌-◌, ◌≤◌}
use Rattle.fx_net.specs.Tables.{net_of}
use Rattle.fx_sweep.specs.Swept.{Swept}
use Rattle.fx_totals.proofs.filling.sweep_target.Given as goal

abbrev pub invariant-loop-done : goal.invariant-loop-done
invariant-loop-done g l = record {
  swept : Swept l.sweep (net_of l.net) l.fn.target l.done;
  made : l.sweep.made ≤ l.initial.sweep.made + l.done;
  few : l.done ≤ l.moments;
}

abbrev pub decreases-loop-done : goal.decreases-loop-done
decreases-loop-done g l = l.moments - l.done
