use Rattle.fx_block.proofs.JointRun.{joint_values_run}
use Rattle.fx_block.proofs.laws.ideal_values_run.Goals as goal

pub returns : goal.returns
returns c = joint_values_run c.args.program.now c.words_are_a_run.ensures.numbers c.words_are_ideal.ensures.floored
