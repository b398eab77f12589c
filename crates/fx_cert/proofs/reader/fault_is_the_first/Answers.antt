use Rattle.fx_cert.proofs.First.{first_law}
use Rattle.fx_cert.proofs.reader.fault_is_the_first.Goals as goal

pub returns : goal.returns
returns c = first_law
