use Rattle.std.proofs.Common.{◌≡◌, ℕ, ◌<◌, ◌≤◌, None}
use Rattle.fx_totals.proofs.series.longest.Given as goal
use Rattle.fx_totals.specs.Series.{WantUpTo, part_in}

abbrev pub invariant-loop-l : goal.invariant-loop-l
invariant-loop-l g l = record {
  covers : (k : ℕ) → k < l.l → (part_in l.parts k).range ≡ None → (part_in l.parts k).moments ≤ l.longest;
  few : (most : ℕ) → WantUpTo most l.l l.parts → l.longest ≤ most;
}
