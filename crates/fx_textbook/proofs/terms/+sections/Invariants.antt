use Rattle.fx_textbook.proofs.terms.+sections.Given as goal

abbrev pub decreases-sections : goal.decreases-sections
decreases-sections l = l.count
