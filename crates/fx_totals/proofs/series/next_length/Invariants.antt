use Rattle.std.proofs.Common.{ℕ, ◌<◌, ◌≤◌}
use Rattle.fx_totals.proofs.series.next_length.Given as goal
use Rattle.fx_totals.specs.Filled.{length_in}

abbrev pub invariant-loop-l : goal.invariant-loop-l
invariant-loop-l l = record {
  more : l.moments < l.next;
  inside : l.next ≤ l.limit;
  nearest : (k : ℕ) → k < l.l → l.moments < length_in l.lengths k → l.next ≤ length_in l.lengths k;
}
