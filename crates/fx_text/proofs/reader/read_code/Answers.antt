use Rattle.fx_text.proofs.CodeLaws.{whole_given}
use Rattle.fx_text.proofs.PartLaws.{head_sound}
use Rattle.fx_text.proofs.ProgramSound.{body_sound}
use Rattle.fx_text.proofs.reader.read_code.Goals as goal

pub returns-clause-whole : goal.returns-clause-whole
returns-clause-whole c =
    let bytes = c.args.bytes.now in
    let head = (head_sound bytes c.in_ok-at.at).holds (c.in_ok-head.head, c.in_ok-head.at) c.in_ok-head.ensures.gives in
    let body = body_sound c.in_ok-head.head bytes c.in_ok-head.at head.fits in
    whole_given c.body_at.result _ c.body_at.ensures.gives (λ p e. (body.holds p e).whole)
