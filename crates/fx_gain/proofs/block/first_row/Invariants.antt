use Rattle.std.proofs.Common.{◌≡◌, ◌*◌, ◌≤◌}
use Rattle.fx_math.specs.Sums.{sum_below}
use Rattle.fx_eqs.specs.Lags.{greatest_lag}
use Rattle.fx_eqs.specs.declared.term.Source.TheVariants.{In}
use Rattle.fx_gain.proofs.block.first_row.Given as goal

abbrev pub invariant-loop-j : goal.invariant-loop-j
invariant-loop-j l = record {
  value : l.next ≡ sum_below l.j (λ i. greatest_lag (In i) l.eqs.terms);
  high : l.next ≤ 12 * l.j;
}
