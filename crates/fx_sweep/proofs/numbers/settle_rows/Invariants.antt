use Rattle.std.proofs.Common.{◌≡◌, ℕ, ◌+◌, ◌-◌, ◌*◌, length}
use Rattle.fx_net.specs.Tables.{net_of}
use Rattle.fx_sweep.specs.Steps.{AreNarrow, GainsFit, WidthsFit, carried_width, greatest, greatest_width}
use Rattle.fx_sweep.specs.Steps.{product_apart, product_bound}
use Rattle.fx_sweep.specs.Swept.{gain_in, interval_in, whole_in}
use Rattle.fx_sweep.proofs.Settling.{IsSettling}
use Rattle.fx_sweep.proofs.numbers.settle_rows.Given as goal

abbrev pub invariant-loop-i : goal.invariant-loop-i
invariant-loop-i g l = record {
  weights_long : length l.weights ≡ g.row.N;
  widths_long : length l.widths ≡ g.row.N;
  gains_long : length l.gains ≡ g.row.N;
  narrow : AreNarrow (greatest + (g.row.N - l.i) * product_bound) (carried_width
      + (g.row.N - l.i) * product_apart) l.weights;
  settling : IsSettling (net_of l.net) g.row.N l.i (interval_in l.initial.weights) (interval_in l.weights)
      (whole_in l.initial.widths) (whole_in l.widths) (gain_in l.initial.gains) (gain_in l.gains);
  widths_fit : (b : ℕ) → WidthsFit b l.initial.widths → WidthsFit (b + greatest_width) l.widths;
  gains_fit : GainsFit l.gains;
}
