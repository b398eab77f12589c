use Rattle.std.proofs.Common.{◌≡◌, ◌+◌, Some}
use Rattle.fx_lattice.specs.StepDown.{gathered, lower_a}
use Rattle.fx_lattice.proofs.lowering.lower_denominator.Given as goal

abbrev pub invariant-loop-j : goal.invariant-loop-j
invariant-loop-j l = gathered l.j (λ p. lower_a l.i l.a l.d (p + 1)) ≡ Some l.lower.items
