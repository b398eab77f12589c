use Rattle.std.proofs.Common.{ℕ, ◌<◌, ◌≤◌}
use Rattle.fx_sweep.specs.declared.limits.TheConstants.{GREATEST_LENGTH}
use Rattle.fx_test_sweeps.proofs.limits.are_lengths.Given as goal
use Rattle.fx_totals.specs.Filled.{length_in}

abbrev pub invariant-loop-l : goal.invariant-loop-l
invariant-loop-l l = record {
  some : (k : ℕ) → k < l.l → 1 ≤ length_in l.lengths k;
  short : (k : ℕ) → k < l.l → length_in l.lengths k ≤ GREATEST_LENGTH;
}
