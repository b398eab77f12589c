use Rattle.std.proofs.Common.{◌≡◌}
use Rattle.fx_mat.specs.Intervals.{interval_at, with_multiples}
use Rattle.fx_mat.specs.Matrix.{entry_at}
use Rattle.fx_mat.proofs.intervals.IvMat.add_multiple.Given as goal

abbrev pub invariant-loop-j : goal.invariant-loop-j
invariant-loop-j g l = interval_at l.self ≡ with_multiples l.i l.p (entry_at l.m l.q) l.j (interval_at l.initial.self)
