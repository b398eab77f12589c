use Rattle.fx_code.proofs.Words.{exact_words}
use Rattle.fx_code.proofs.laws.exact_words_are_floored_sums.Goals as goal

pub returns : goal.returns
returns c = exact_words c.args.program.now c.programs_fit.ensures
