use Rattle.std.proofs.Common.{All, arith, subst}
use Rattle.std.proofs.lemmas.List.{take_all}
use Rattle.std.proofs.lemmas.List.Elements.{All-more}
use Rattle.fx_make.specs.Designs.{ErrorFits}
use Rattle.fx_make.proofs.made.errors_are_small.Goals as goal

pub loop-output-preserved : goal.loop-output-preserved
loop-output-preserved c =
    All-more ErrorFits c.args.outputs.now c.loop-output.output-index c.output-item.result c.loop-output-test.true
    c.loop-output.invariant (subst ErrorFits c.output-item.is c.num.ensures.fits)

pub returns : goal.returns
returns c =
    subst (All ErrorFits) (take_all c.loop-output.output-index c.args.outputs.now
    (omega (arith, c.loop-output-test.false))) c.loop-output.invariant
