use Rattle.std.proofs.Common.{◌≡◌, ◌+◌, ◌*◌}
use Rattle.fx_math.specs.Sums.{sum_below, total}
use Rattle.fx_eqs.specs.declared.limits.TheConstants.{PORTS}
use Rattle.fx_nums.specs.Interval.{magnitude}
use Rattle.fx_sweep.specs.Swept.{interval_in}
use Rattle.fx_totals.specs.Kept.{IsUpTo}
use Rattle.fx_gain.specs.Enclosing.{least_magnitude}
use Rattle.fx_gain.proofs.weights.least_sum.Given as goal

abbrev pub invariant-loop-n : goal.invariant-loop-n
invariant-loop-n l = record {
  value : l.total ≡ total l.n (λ n. least_magnitude (interval_in l.weights (n * PORTS + l.j)));
  fits : IsUpTo (sum_below l.n (λ n. magnitude (interval_in l.weights (n * PORTS + l.j)))) l.total;
}
