use Rattle.std.proofs.Common.{take, All}
use Rattle.fx_make.specs.Designs.{ErrorFits}
use Rattle.fx_make.proofs.made.errors_are_small.Given as goal

abbrev pub invariant-loop-output : goal.invariant-loop-output
invariant-loop-output l = All ErrorFits (take l.output-index l.outputs)
