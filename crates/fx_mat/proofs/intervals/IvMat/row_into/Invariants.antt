use Rattle.std.proofs.Common.{◌≡◌, ℕ, ◌<◌}
use Rattle.fx_mat.specs.Intervals.{IsRowByColumn, interval_at}
use Rattle.fx_mat.specs.Matrix.{entry_at}
use Rattle.fx_mat.proofs.intervals.IvMat.row_into.Given as goal

abbrev pub invariant-loop-d : goal.invariant-loop-d
invariant-loop-d g l = record {
  done : (d : ℕ) → d < l.d →
      IsRowByColumn g.row.C (interval_at l.self l.i) (λ k. entry_at l.m k d) (interval_at l.out l.i d);
  left : (p d : ℕ) → (p ≡ l.i → ⊥) → interval_at l.out p d ≡ interval_at l.initial.out p d;
}
