use Rattle.std.proofs.Common.{◌≡◌, ◌*◌, length}
use Rattle.fx_cross.specs.Table.{entry_at}
use Rattle.fx_sweep.specs.Steps.{AreNarrow, product_apart, product_bound}
use Rattle.fx_sweep.specs.Swept.{interval_in}
use Rattle.fx_sweep.specs.Weights.{taken}
use Rattle.fx_sweep.proofs.handing.hand_out.Given as goal

abbrev pub invariant-loop-i : goal.invariant-loop-i
invariant-loop-i l = record {
  long : length l.at ≡ length l.initial.at;
  value : interval_in l.at ≡ (λ j. taken l.i (interval_in l.weights) (λ i. entry_at l.table i j));
  narrow : AreNarrow (l.i * product_bound) (l.i * product_apart) l.at;
}
