use Rattle.std.proofs.Common.{◌≡◌, ℕ, ◌<◌}
use Rattle.fx_mat.specs.Matrix.{entry_at}
use Rattle.fx_mat.proofs.fractions.FracMat.row_into_column.Given as goal

abbrev pub invariant-loop-j : goal.invariant-loop-j
invariant-loop-j g l = record {
  written : (p : ℕ) → p < l.j → entry_at l.out p l.i ≡ entry_at l.self l.i p;
  left : (p q : ℕ) → (q ≡ l.i → ⊥) → entry_at l.out p q ≡ entry_at l.initial.out p q;
}
