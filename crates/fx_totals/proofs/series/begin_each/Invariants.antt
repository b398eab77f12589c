use Rattle.std.proofs.Common.{◌≡◌, ℕ, ◌<◌, List, length}
use Rattle.fx_net.specs.Net.{Net}
use Rattle.fx_sweep.specs.declared.target.Target.{Target}
use Rattle.fx_totals.proofs.series.begin_each.Given as goal
use Rattle.fx_totals.specs.Filled.{length_in}
use Rattle.fx_totals.specs.Series.{IsSoFar, part_in}

abbrev pub invariant-loop-l : goal.invariant-loop-l
invariant-loop-l g l = record {
  long : length l.parts ≡ length l.initial.parts;
  begun : (net : Net) (targets : List Target) (k : ℕ) → k < l.l →
      IsSoFar (part_in l.parts k) net targets (length_in l.lengths k) 0 0;
}
