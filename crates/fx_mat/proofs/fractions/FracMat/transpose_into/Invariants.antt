use Rattle.std.proofs.Common.{◌≡◌, ℕ, ◌<◌}
use Rattle.fx_mat.specs.Matrix.{entry_at}
use Rattle.fx_mat.proofs.fractions.FracMat.transpose_into.Given as goal

abbrev pub invariant-loop-i : goal.invariant-loop-i
invariant-loop-i g l = (p q : ℕ) → q < l.i → entry_at l.out p q ≡ entry_at l.self q p
