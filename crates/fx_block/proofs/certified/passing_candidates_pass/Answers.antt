use Rattle.fx_block.proofs.Made.{bounds_are_least, candidates_pass}
use Rattle.fx_block.proofs.certified.passing_candidates_pass.Goals as goal

pub returns-clause-pass : goal.returns-clause-pass
returns-clause-pass c = candidates_pass c.raises_find_the_least.ensures.rest

pub returns-clause-least : goal.returns-clause-least
returns-clause-least c = bounds_are_least c.raises_find_the_least.ensures.rest
