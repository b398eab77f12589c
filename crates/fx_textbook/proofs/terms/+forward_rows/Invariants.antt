use Rattle.std.proofs.Common.{length}
use Rattle.fx_textbook.proofs.terms.+forward_rows.Given as goal

abbrev pub decreases-forward_rows : goal.decreases-forward_rows
decreases-forward_rows l = length l.reflections.now
