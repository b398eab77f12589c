use Rattle.fx_code.proofs.NetRun.{word_steps}
use Rattle.fx_code.proofs.laws.words_are_their_step.Goals as goal

pub returns : goal.returns
returns c = word_steps c.args.program.now c.programs_fit.ensures c.unrolled_is_its_step.ensures
