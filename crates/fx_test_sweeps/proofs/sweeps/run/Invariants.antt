use Rattle.std.proofs.Common.{◌+◌, ◌≤◌}
use Rattle.fx_test_sweeps.proofs.sweeps.run.Given as goal

abbrev pub invariant-loop-k : goal.invariant-loop-k
invariant-loop-k l = l.sweep.count ≤ l.initial.sweep.count + l.k
