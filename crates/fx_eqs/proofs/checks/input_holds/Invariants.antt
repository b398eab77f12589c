use Rattle.std.proofs.Common.{◌≡◌, ◌≤◌, ◌*◌, filter}
use Rattle.fx_eqs.specs.Equations.{is_kept}
use Rattle.fx_math.specs.Sums.{sum_below}
use Rattle.fx_eqs.specs.Lags.{greatest_lag}
use Rattle.fx_eqs.specs.declared.term.Source.TheVariants.{In}
use Rattle.fx_eqs.proofs.checks.input_holds.Given as goal

abbrev pub invariant-loop-j : goal.invariant-loop-j
invariant-loop-j l = (l.count ≡ sum_below l.j (λ j. greatest_lag (In j) (filter is_kept l.terms)))
    × (l.count ≤ 255 * l.j)
