use Rattle.std.proofs.Common.{◌≤◌}
use Rattle.fx_large.proofs.RunsSoFar.{RunsSoFar}
use Rattle.fx_large.proofs.running.run_samples.Given as goal

abbrev pub invariant-loop : goal.invariant-loop
invariant-loop l = record {
  so_far : RunsSoFar l.program l.count l.fn.draws.state l.counter l.machine l.draws.state l.summary;
  some : 1 ≤ l.counter;
}
