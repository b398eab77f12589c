use Rattle.fx_sweep.proofs.Ordered.{intervals_stay_ordered}
use Rattle.fx_sweep.proofs.laws.intervals_stay_ordered.Goals as goal

pub returns : goal.returns
returns c = intervals_stay_ordered
