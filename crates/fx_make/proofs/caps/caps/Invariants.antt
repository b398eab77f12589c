use Rattle.std.proofs.Common.{◌≡◌, ℕ, ◌<◌, ◌≤◌, length, pos}
use Rattle.fx_msb.specs.declared.widths.TheConstants.{GREATEST_BOUND}
use Rattle.fx_sweep.specs.Swept.{whole_in}
use Rattle.fx_totals.specs.Kept.{AreBounds}
use Rattle.fx_block.specs.Candidate.{cap_of}
use Rattle.fx_make.proofs.caps.caps.Given as goal

abbrev pub invariant-loop-i : goal.invariant-loop-i
invariant-loop-i g l = record {
  long : length l.caps ≡ g.row.N;
  first : (k : ℕ) → k < l.i → whole_in l.caps k ≡ pos (cap_of l.f l.d.rows k);
  behind : (k : ℕ) → l.i ≤ k → k < g.row.N → whole_in l.caps k ≡ pos GREATEST_BOUND;
  fit : AreBounds l.caps;
}
