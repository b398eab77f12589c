use Rattle.std.proofs.Common.{◌≡◌, ℕ, ◌≤◌, ◌-◌, length}
use Rattle.fx_totals.specs.Kept.{AreBounds, bound_in}
use Rattle.fx_block.specs.Raising.{raises_by}
use Rattle.fx_block.specs.Told.{kept_raise}
use Rattle.fx_block.proofs.least.least_bounds.Given as goal

abbrev pub invariant-loop : goal.invariant-loop
invariant-loop g l = record {
  count : length l.x ≡ length l.initial.x;
  room : length l.scratch ≡ length l.initial.scratch;
  fits : AreBounds l.x;
  past : (j : ℕ) → l.rows ≤ j → bound_in l.x j ≡ 0;
  same : raises_by (kept_raise l.t l.rows (bound_in l.bounds)) l.rows (bound_in l.caps) 63 (λ j. 0)
      ≡ raises_by (kept_raise l.t l.rows (bound_in l.bounds)) l.rows (bound_in l.caps) (63 - l.counter)
      (bound_in l.x);
}
