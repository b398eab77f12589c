use Rattle.std.proofs.Common.{◌≡◌, ℕ, ◌<◌, ◌≤◌, length}
use Rattle.fx_net.specs.Tables.{net_of}
use Rattle.fx_totals.proofs.series.finish_each.Given as goal
use Rattle.fx_totals.specs.Filled.{length_in}
use Rattle.fx_totals.specs.Series.{IsDone, part_in}

abbrev pub invariant-loop-l : goal.invariant-loop-l
invariant-loop-l g l = record {
  long : length l.parts ≡ length l.initial.parts;
  rest : (k : ℕ) → l.l ≤ k → part_in l.parts k ≡ part_in l.initial.parts k;
  done : (k : ℕ) → k < l.l → IsDone (part_in l.parts k) (net_of l.net) l.targets (length_in l.lengths k);
}
