use Rattle.std.proofs.Common.{◌≡◌, ℕ, ◌<◌, ◌^◌, length}
use Rattle.fx_totals.specs.Kept.{AreUpTo, bound_in}
use Rattle.fx_block.specs.Told.{kept_raise}
use Rattle.fx_block.proofs.least.raise.Given as goal

abbrev pub invariant-loop-j : goal.invariant-loop-j
invariant-loop-j g l = record {
  long : length l.next ≡ length l.initial.next;
  value : (k : ℕ) → k < l.j → bound_in l.next k ≡ kept_raise l.t l.rows (bound_in l.bounds) (bound_in l.x) k;
  fits : AreUpTo (2 ^ 62) l.next;
}
