use Rattle.std.proofs.lemmas.Result.{IfOk-weaker}
use Rattle.fx_cert.proofs.Lengths.{text_short}
use Rattle.fx_cert.proofs.writer.write_cert.Goals as goal

pub returns-clause-short : goal.returns-clause-short
returns-clause-short c =
    IfOk-weaker c.text_of.result _ _ (λ v e. rw e (text_short c.args.c.now c.certificates_fit.ensures)) c.text_of.ensures
