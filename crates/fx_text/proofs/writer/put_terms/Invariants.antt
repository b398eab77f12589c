use Rattle.std.proofs.Common.{◌≡◌, ◌++◌, drop}
use Rattle.fx_text.specs.Writing.{term_lines}
use Rattle.fx_text.proofs.writer.put_terms.Given as goal

abbrev pub invariant-loop-term : goal.invariant-loop-term
invariant-loop-term l = l.out.items ++ term_lines (drop l.term-index l.terms) ≡ l.fn.out.items ++ term_lines l.terms
