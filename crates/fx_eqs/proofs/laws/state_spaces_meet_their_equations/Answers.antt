use Rattle.fx_eqs.proofs.TextbookRuns.{state_space_runs}
use Rattle.fx_eqs.proofs.laws.state_spaces_meet_their_equations.Goals as goal

pub returns : goal.returns
returns c = state_space_runs
