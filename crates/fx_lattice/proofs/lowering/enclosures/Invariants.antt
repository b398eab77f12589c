use Rattle.std.proofs.Common.{◌≡◌}
use Rattle.fx_lattice.specs.StepDown.{enclosures}
use Rattle.fx_lattice.proofs.lowering.enclosures.Given as goal

abbrev pub invariant-loop-j : goal.invariant-loop-j
invariant-loop-j l = l.intervals.items ≡ enclosures l.coefficients l.first l.j
