use Rattle.std.proofs.Common.{◌+◌, drop, pos}
use Rattle.fx_code.specs.declared.term.Read.TheVariants.{Now}
use Rattle.fx_text.specs.Writing.{term_lines}
use Rattle.fx_text.proofs.Lines.{pushed, terms_more}
use Rattle.fx_text.proofs.writer.put_terms.Goals as goal

pub loop-term-preserved : goal.loop-term-preserved
loop-term-preserved c =
    let ts = c.args.terms.now in
    let line = rw c.in_ok-line.ensures at c.in_ok-put.ensures in
    pushed _ _ (term_lines (drop (c.loop-term.term-index + 1) ts)) _ _ _ line
    (terms_more ts (record { coef = pos 0; from = Now 0; left = 0 }) c.loop-term.term-index
    c.loop-term-test.true) c.loop-term.invariant
