use Rattle.fx_eqs.proofs.TextbookRuns.{lattice_runs}
use Rattle.fx_eqs.proofs.laws.lattices_meet_their_equations.Goals as goal

pub returns : goal.returns
returns c = lattice_runs
