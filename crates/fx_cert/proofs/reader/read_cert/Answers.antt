use Rattle.std.proofs.Common.{subst}
use Rattle.fx_math.specs.Answers.{Gives}
use Rattle.fx_cert.specs.Reading.{is_memory}
use Rattle.fx_cert.proofs.Read.{is_found}
use Rattle.fx_cert.proofs.Again.{text_is_read}
use Rattle.fx_cert.proofs.First.{tells_first}
use Rattle.fx_cert.specs.Lines.{lines_of}
use Rattle.fx_cert.proofs.reader.read_cert.Goals as goal

pub returns-clause-found : goal.returns-clause-found
returns-clause-found c = is_found c.args.bytes.now c.certificate_in.result c.certificate_in.ensures

pub returns-clause-only : goal.returns-clause-only
returns-clause-only c = λ d h.
    subst (λ r. Gives is_memory (λ x. x) c.certificate_in.result r) (text_is_read c.args.bytes.now d h)
    c.certificate_in.ensures

pub returns-clause-first : goal.returns-clause-first
returns-clause-first c = tells_first (lines_of c.args.bytes.now) c.certificate_in.result c.certificate_in.ensures
