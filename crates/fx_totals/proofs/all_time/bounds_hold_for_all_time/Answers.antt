use Rattle.fx_totals.proofs.AllTime.{bounds_hold, bounds_suffice}
use Rattle.fx_totals.proofs.all_time.bounds_hold_for_all_time.Goals as goal

pub returns-clause-rows : goal.returns-clause-rows
returns-clause-rows c = bounds_hold c.totals_bound.ensures

pub returns-clause-targets : goal.returns-clause-targets
returns-clause-targets c = bounds_suffice
