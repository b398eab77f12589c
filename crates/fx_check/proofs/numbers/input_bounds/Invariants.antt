use Rattle.std.proofs.Common.{◌≡◌, ℕ, ◌<◌, ◌≤◌, length, pos}
use Rattle.fx_eqs.specs.declared.limits.TheConstants.{PORTS}
use Rattle.fx_sweep.specs.Swept.{whole_in}
use Rattle.fx_totals.specs.Kept.{AreBounds}
use Rattle.fx_block.specs.Formats.{input_at}
use Rattle.fx_check.proofs.numbers.input_bounds.Given as goal

abbrev pub invariant-loop-j : goal.invariant-loop-j
invariant-loop-j l = record {
  long : length l.bounds ≡ PORTS;
  first : (k : ℕ) → k < l.j → whole_in l.bounds k ≡ (input_at l.f k).bound;
  behind : (k : ℕ) → l.j ≤ k → whole_in l.bounds k ≡ pos 0;
  fit : AreBounds l.bounds;
}
