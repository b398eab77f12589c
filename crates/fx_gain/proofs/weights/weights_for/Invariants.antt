use Rattle.std.proofs.Common.{◌≡◌, ℕ, ◌+◌, ◌*◌, ◌<◌, length}
use Rattle.fx_eqs.specs.declared.limits.TheConstants.{PORTS}
use Rattle.fx_net.specs.Tables.{net_of}
use Rattle.fx_sweep.specs.Swept.{Swept, interval_in}
use Rattle.fx_sweep.specs.Target.{start_of}
use Rattle.fx_sweep.specs.Weights.{inputs}
use Rattle.fx_sweep.specs.declared.target.Target.TheVariants.{Row}
use Rattle.fx_gain.proofs.weights.weights_for.Given as goal

abbrev pub invariant-loop-n : goal.invariant-loop-n
invariant-loop-n g l = record {
  swept : Swept l.sweep (net_of l.net) (Row l.fn.row) l.n;
  long : length l.weights.items ≡ l.fn.moments * PORTS;
  done : (k j : ℕ) → k < l.n → j < PORTS →
      interval_in l.weights.items (k * PORTS + j) ≡ inputs (net_of l.net) (start_of (Row l.fn.row)) k j;
}
