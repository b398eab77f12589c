use Rattle.fx_mat.specs.Intervals.{RowFits, interval_at}
use Rattle.fx_mat.proofs.intervals.IvMat.row_fits.Given as goal

abbrev pub invariant-loop-j : goal.invariant-loop-j
invariant-loop-j g l = RowFits l.bits l.j (interval_at l.self l.i)
