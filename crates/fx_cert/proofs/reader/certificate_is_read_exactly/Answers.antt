use Rattle.fx_cert.proofs.Read.{certificate_law}
use Rattle.fx_cert.proofs.reader.certificate_is_read_exactly.Goals as goal

pub returns : goal.returns
returns c = certificate_law
