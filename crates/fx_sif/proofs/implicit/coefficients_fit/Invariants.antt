use Rattle.std.proofs.Common.{take}
use Rattle.fx_sif.specs.Fits.{CoefficientsFit}
use Rattle.fx_sif.proofs.implicit.coefficients_fit.Given as goal

abbrev pub invariant-loop-entry : goal.invariant-loop-entry
invariant-loop-entry l = CoefficientsFit (take l.entry-index l.entries)
