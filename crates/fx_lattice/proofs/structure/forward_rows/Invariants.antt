use Rattle.std.proofs.Common.{◌≡◌, ◌++◌}
use Rattle.fx_math.specs.Sums.{joined}
use Rattle.fx_lattice.specs.Structure.{forward_row}
use Rattle.fx_lattice.proofs.structure.forward_rows.Given as goal

abbrev pub invariant-loop-r : goal.invariant-loop-r
invariant-loop-r l = l.entries.items ≡ l.fn.entries.items ++ joined l.r (forward_row l.k)
