use Rattle.fx_cert.proofs.Again.{text_again}
use Rattle.fx_cert.proofs.writer.written_certificate_is_read.Goals as goal

pub returns : goal.returns
returns c = text_again c.args.c.now c.certificates_fit.ensures
