use Rattle.fx_cert.proofs.Read.{one_certificate}
use Rattle.fx_cert.proofs.reader.text_has_one_certificate.Goals as goal

pub returns : goal.returns
returns c = one_certificate
