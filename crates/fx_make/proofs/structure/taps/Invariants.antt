use Rattle.std.proofs.Common.{◌≡◌, [], ◌∷◌}
use Rattle.fx_math.specs.Sums.{joined}
use Rattle.fx_lattice.specs.Lattice.{low_over, tap}
use Rattle.fx_lattice.specs.declared.limits.TheConstants.{TAP_BITS}
use Rattle.fx_make.proofs.structure.taps.Given as goal

abbrev pub invariant-loop-i : goal.invariant-loop-i
invariant-loop-i l = l.v.items ≡ joined l.i (λ i. low_over TAP_BITS (tap l.ladder i) ∷ [])
