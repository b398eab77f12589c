use Rattle.std.proofs.Common.{◌≡◌, ℕ, ◌+◌, ◌*◌, ◌^◌, pos, ◌*ℤ◌}
use Rattle.fx_math.specs.Sums.{total}
use Rattle.fx_sweep.specs.Swept.{whole_in}
use Rattle.fx_totals.proofs.sums.products.Given as goal
use Rattle.fx_totals.specs.Kept.{AreUpTo, IsUpTo, bound_in}

abbrev pub invariant-loop-i : goal.invariant-loop-i
invariant-loop-i l = record {
  value : l.all ≡ total l.i (λ i. whole_in l.numbers (l.at + i) *ℤ pos (bound_in l.bounds i));
  fits : (most : ℕ) → AreUpTo most l.numbers → IsUpTo (l.i * (most * 2 ^ 31)) l.all;
}
