use Rattle.std.proofs.Common.{◌≡◌, [], take, drop}
use Rattle.fx_sif.specs.Faults.{entries_fault}
use Rattle.fx_sif.proofs.checks.entries_fault.Given as goal

abbrev pub invariant-loop-i : goal.invariant-loop-i
invariant-loop-i l = entries_fault l.sizes (take l.i l.entries) (drop l.i l.entries)
    ≡ entries_fault l.sizes [] l.entries
