use Rattle.std.proofs.Common.{◌≡◌, ◌≤◌, max, drop, filter}
use Rattle.fx_eqs.specs.Equations.{is_kept}
use Rattle.fx_eqs.specs.Lags.{greatest_lag}
use Rattle.fx_eqs.proofs.checks.greatest_lag.Given as goal

abbrev pub invariant-loop-term : goal.invariant-loop-term
invariant-loop-term l = (max l.greatest (greatest_lag l.source (filter is_kept (drop l.term-index l.terms)))
    ≡ greatest_lag l.source (filter is_kept l.terms)) × (l.greatest ≤ 255)
