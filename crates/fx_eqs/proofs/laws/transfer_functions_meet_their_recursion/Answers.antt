use Rattle.fx_eqs.proofs.TextbookRuns.{transfer_runs}
use Rattle.fx_eqs.proofs.laws.transfer_functions_meet_their_recursion.Goals as goal

pub returns : goal.returns
returns c = transfer_runs
