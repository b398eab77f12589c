use Rattle.fx_text.proofs.Lines.{three_pushed}
use Rattle.fx_text.proofs.writer.put_row.Goals as goal

pub returns : goal.returns
returns c =
    let first = rw (c.in_ok-line.ensures, c.constant.ensures) at c.in_ok-put.ensures in
    let second = rw c.terms.ensures.value at c.in_ok-put_terms.ensures in
    let third = rw c.in_ok-line-2.ensures at c.in_ok-put-2.ensures in
    three_pushed _ _ _ _ _ _ _ first second third
