use Rattle.fx_textbook.proofs.terms.+matrix_rows.Given as goal

abbrev pub decreases-matrix_rows : goal.decreases-matrix_rows
decreases-matrix_rows l = l.count
