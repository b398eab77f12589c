use Rattle.fx_eqs.proofs.TextbookRuns.{cascade_runs}
use Rattle.fx_eqs.proofs.laws.cascades_meet_their_recursions.Goals as goal

pub returns : goal.returns
returns c = cascade_runs
