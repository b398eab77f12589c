use Rattle.std.proofs.Common.{◌≡◌, ◌+◌, [], ◌∷◌}
use Rattle.fx_math.specs.Sums.{joined}
use Rattle.fx_lattice.specs.Lattice.{low_over, reflection}
use Rattle.fx_lattice.specs.declared.limits.TheConstants.{REFLECTION_BITS}
use Rattle.fx_make.proofs.structure.reflections.Given as goal

abbrev pub invariant-loop-i : goal.invariant-loop-i
invariant-loop-i l = l.k.items ≡ joined l.i (λ i. low_over REFLECTION_BITS (reflection l.ladder (i + 1)) ∷ [])
