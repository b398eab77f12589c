use Rattle.fx_block.proofs.Wrapping.{ideal_is_floored, words_are_ideal}
use Rattle.fx_block.proofs.laws.words_are_ideal.Goals as goal

pub returns-clause-floored : goal.returns-clause-floored
returns-clause-floored c = ideal_is_floored c.args.program.now c.programs_fit.ensures c.unrolled_is_its_step.ensures

pub returns-clause-words : goal.returns-clause-words
returns-clause-words c = words_are_ideal c.args.program.now c.programs_fit.ensures
