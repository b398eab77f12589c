use Rattle.std.proofs.Common.{◌≡◌, ◌≤◌, ◌*◌, ◌-◌, filter}
use Rattle.fx_eqs.specs.Equations.{is_kept}
use Rattle.fx_math.specs.Sums.{sum_below}
use Rattle.fx_eqs.specs.Lags.{greatest_lag}
use Rattle.fx_eqs.specs.declared.term.Source.TheVariants.{Row}
use Rattle.fx_eqs.proofs.checks.row_holds.Given as goal

abbrev pub invariant-loop-j : goal.invariant-loop-j
invariant-loop-j l = (l.count ≡ sum_below l.j (λ j. greatest_lag (Row j) (filter is_kept l.terms) - 1))
    × (l.count ≤ 255 * l.j)
