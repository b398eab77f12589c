use Rattle.fx_block.proofs.Raising.{over_has_none, rest_is_least}
use Rattle.fx_block.proofs.least.raises_find_the_least.Goals as goal

pub returns-clause-rest : goal.returns-clause-rest
returns-clause-rest c = rest_is_least c.totals_grow.ensures.grow c.totals_grow.ensures.none

pub returns-clause-over : goal.returns-clause-over
returns-clause-over c = over_has_none c.totals_grow.ensures.grow c.totals_grow.ensures.none
