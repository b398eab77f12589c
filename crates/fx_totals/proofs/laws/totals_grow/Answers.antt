use Rattle.fx_totals.proofs.Growth.{totals_grow, no_total_is_negative}
use Rattle.fx_totals.proofs.laws.totals_grow.Goals as goal

pub returns-clause-grow : goal.returns-clause-grow
returns-clause-grow c = totals_grow

pub returns-clause-none : goal.returns-clause-none
returns-clause-none c = no_total_is_negative
