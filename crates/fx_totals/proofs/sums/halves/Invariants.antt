use Rattle.std.proofs.Common.{◌≡◌, ◌*◌, ◌^◌, pos}
use Rattle.fx_math.specs.Sums.{total}
use Rattle.fx_net.specs.Tables.{net_of}
use Rattle.fx_sweep.specs.Swept.{row_gain_at}
use Rattle.fx_totals.proofs.sums.halves.Given as goal
use Rattle.fx_totals.specs.Kept.{IsUpTo}

abbrev pub invariant-loop-i : goal.invariant-loop-i
invariant-loop-i g l = record {
  value : l.all ≡ total l.i (λ i. pos (row_gain_at l.sweep i * (net_of l.net).class i));
  fits : IsUpTo (l.i * 2 ^ 89) l.all;
}
