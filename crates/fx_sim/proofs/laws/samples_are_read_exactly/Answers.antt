use Rattle.fx_sim.proofs.Moments.{read_exactly}
use Rattle.fx_sim.proofs.laws.samples_are_read_exactly.Goals as goal

pub returns : goal.returns
returns c = read_exactly
