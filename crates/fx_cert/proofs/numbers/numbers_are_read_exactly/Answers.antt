use Rattle.fx_cert.proofs.Read.{number_law}
use Rattle.fx_cert.proofs.numbers.numbers_are_read_exactly.Goals as goal

pub returns : goal.returns
returns c = number_law
