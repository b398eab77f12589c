use Rattle.std.proofs.Common.{◌≡◌, ◌++◌}
use Rattle.fx_sif.specs.Entries.{delays}
use Rattle.fx_sif.proofs.entries.add_delays.Given as goal

abbrev pub invariant-loop-i : goal.invariant-loop-i
invariant-loop-i l = l.entries.items ≡ l.fn.entries.items ++ delays l.block l.column l.at l.i
