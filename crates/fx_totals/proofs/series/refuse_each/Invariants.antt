use Rattle.std.proofs.Common.{◌≡◌, ℕ, ◌≤◌, length}
use Rattle.fx_totals.proofs.series.refuse_each.Given as goal
use Rattle.fx_totals.specs.Series.{IsMadeForEach, IsRefusedOn, part_in}

abbrev pub invariant-loop-l : goal.invariant-loop-l
invariant-loop-l g l = record {
  long : length l.parts ≡ length l.initial.parts;
  rest : (k : ℕ) → l.l ≤ k → part_in l.parts k ≡ part_in l.initial.parts k;
  done : IsMadeForEach (IsRefusedOn l.t l.at l.moments) l.l l.initial.parts l.parts;
}
