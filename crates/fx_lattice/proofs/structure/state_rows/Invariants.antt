use Rattle.std.proofs.Common.{◌≡◌, ◌++◌}
use Rattle.fx_math.specs.Sums.{joined}
use Rattle.fx_lattice.specs.Structure.{state_row}
use Rattle.fx_lattice.proofs.structure.state_rows.Given as goal

abbrev pub invariant-loop-i : goal.invariant-loop-i
invariant-loop-i l = l.entries.items ≡ l.fn.entries.items ++ joined l.i (state_row l.order)
