use Rattle.fx_totals.proofs.TotalLaw.{totals_bound}
use Rattle.fx_totals.proofs.laws.totals_bound.Goals as goal

pub returns : goal.returns
returns c = totals_bound c.targets_lie_between.ensures
