use Rattle.std.proofs.Common.{◌≡◌, ℕ, ◌<◌, ◌≤◌, length, pos}
use Rattle.fx_sweep.specs.Swept.{whole_in}
use Rattle.fx_totals.specs.Kept.{AreBounds}
use Rattle.fx_check.proofs.numbers.row_bounds.Given as goal

abbrev pub invariant-loop-j : goal.invariant-loop-j
invariant-loop-j g l = record {
  long : length l.bounds ≡ g.row.N;
  first : (k : ℕ) → k < l.j → whole_in l.bounds k ≡ whole_in l.c.bounds k;
  behind : (k : ℕ) → l.j ≤ k → whole_in l.bounds k ≡ pos 0;
  fit : AreBounds l.bounds;
}
