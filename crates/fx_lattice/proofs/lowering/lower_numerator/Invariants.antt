use Rattle.std.proofs.Common.{◌≡◌, Some}
use Rattle.fx_lattice.specs.StepDown.{gathered, lower_b}
use Rattle.fx_lattice.proofs.lowering.lower_numerator.Given as goal

abbrev pub invariant-loop-j : goal.invariant-loop-j
invariant-loop-j l = gathered l.j (lower_b l.i l.a l.b) ≡ Some l.lower.items
