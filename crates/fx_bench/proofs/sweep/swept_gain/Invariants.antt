use Rattle.fx_net.specs.Tables.{net_of}
use Rattle.fx_sweep.specs.Swept.{Swept}
use Rattle.fx_sweep.specs.declared.target.Target.TheVariants.{Row}
use Rattle.fx_bench.proofs.sweep.swept_gain.Given as goal

abbrev pub invariant-loop : goal.invariant-loop
invariant-loop g l = Swept l.sweep (net_of l.net) (Row l.row) l.counter
