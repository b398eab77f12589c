use Rattle.std.proofs.Common.{◌≡◌, ℕ, ◌+◌, ◌<◌, ◌≤◌, None}
use Rattle.fx_net.specs.Tables.{net_of}
use Rattle.fx_sweep.specs.Target.{start_of}
use Rattle.fx_totals.proofs.totals.Totals.fill_targets.Given as goal
use Rattle.fx_totals.specs.Filled.{HoldsTarget, first_target_range, length_in, moments_of, target_in}

abbrev pub invariant-loop-t : goal.invariant-loop-t
invariant-loop-t g l = record {
  size : l.self.size ≡ g.row.N;
  filled : l.self.filled ≡ l.initial.self.filled;
  none : first_target_range (net_of l.net) l.targets l.lengths l.t ≡ None;
  held : (s : ℕ) → s < l.t →
      HoldsTarget l.self s (net_of l.net) (start_of (target_in l.targets s)) (length_in l.lengths s);
  made : l.sweep.made ≤ l.initial.sweep.made + moments_of l.lengths l.t;
}
