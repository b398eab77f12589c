use Rattle.std.proofs.Common.{◌∙◌, arith}
use Rattle.fx_decimal.proofs.Places.{written_is}
use Rattle.fx_decimal.proofs.print.written.Goals as goal

pub returns : goal.returns
returns c = c.push_places.ensures ∙ rw (
  c.push.ensures,
  c.whole_text-text.ensures.text,
)
    (written_is c.args.negative c.args.whole c.args.rest c.args.places c.if-places-eq0.false (omega arith)
    c.requires.rest)
