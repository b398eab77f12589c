use Rattle.fx_mat.specs.Intervals.{interval_at}
use Rattle.fx_mat.specs.Matrix.{entry_at}
use Rattle.fx_mat.proofs.Sums.{IsPartial}
use Rattle.fx_mat.proofs.intervals.IvMat.product_entry.Given as goal

abbrev pub invariant-loop-k : goal.invariant-loop-k
invariant-loop-k g l = IsPartial l.k (interval_at l.self l.i) (λ k. entry_at l.m k l.d) l.sum
