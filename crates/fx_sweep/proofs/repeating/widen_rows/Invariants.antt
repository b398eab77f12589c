use Rattle.std.proofs.Common.{◌≡◌, ℕ, ◌+◌, ◌*◌, ◌<◌, ◌≤◌, length}
use Rattle.std.proofs.Math.IntN.{pos, ◌+ℤ◌, ◌*ℤ◌}
use Rattle.fx_nums.specs.Arithmetic.{width}
use Rattle.fx_sweep.specs.Steps.{WidthsFit, greatest_width}
use Rattle.fx_sweep.specs.Swept.{interval_in, whole_in}
use Rattle.fx_sweep.proofs.repeating.widen_rows.Given as goal

abbrev pub invariant-loop-i : goal.invariant-loop-i
invariant-loop-i l = record {
  long : length l.widths ≡ length l.initial.widths;
  done : (k : ℕ) → k < l.i →
      whole_in l.widths k ≡ whole_in l.initial.widths k +ℤ pos l.times *ℤ width (interval_in l.weights k);
  left : (k : ℕ) → l.i ≤ k → whole_in l.widths k ≡ whole_in l.initial.widths k;
  fit : (b : ℕ) → WidthsFit b l.initial.widths → WidthsFit (b + l.times * greatest_width) l.widths;
}
