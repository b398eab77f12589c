use Rattle.fx_code.proofs.NetRun.{floored_rows, words_run}
use Rattle.fx_code.proofs.laws.words_are_a_run.Goals as goal

pub returns-clause-numbers : goal.returns-clause-numbers
returns-clause-numbers c = floored_rows c.args.program.now c.programs_fit.ensures

pub returns-clause-words : goal.returns-clause-words
returns-clause-words c = words_run c.args.program.now c.programs_fit.ensures c.exact_words_are_floored_sums.ensures
