use Rattle.fx_sim.proofs.FieldLaws.{read_exactly}
use Rattle.fx_sim.proofs.laws.fields_are_read_exactly.Goals as goal

pub returns : goal.returns
returns c = read_exactly
