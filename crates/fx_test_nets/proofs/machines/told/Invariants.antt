use Rattle.std.proofs.Common.{◌≡◌}
use Rattle.fx_test_nets.proofs.machines.told.Given as goal

abbrev pub invariant-loop-i : goal.invariant-loop-i
invariant-loop-i l = l.machine.program ≡ l.program
