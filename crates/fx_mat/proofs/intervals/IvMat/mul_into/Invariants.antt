use Rattle.fx_mat.specs.Intervals.{IsProductBelow, interval_at}
use Rattle.fx_mat.specs.Matrix.{entry_at}
use Rattle.fx_mat.proofs.intervals.IvMat.mul_into.Given as goal

abbrev pub invariant-loop-i : goal.invariant-loop-i
invariant-loop-i g l = IsProductBelow l.i g.row.D g.row.C (interval_at l.self) (entry_at l.m) (interval_at l.out)
