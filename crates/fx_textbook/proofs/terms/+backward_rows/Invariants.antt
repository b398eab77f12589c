use Rattle.std.proofs.Common.{length}
use Rattle.fx_textbook.proofs.terms.+backward_rows.Given as goal

abbrev pub decreases-backward_rows : goal.decreases-backward_rows
decreases-backward_rows l = length l.reflections.now
