use Rattle.std.proofs.Common.{◌≡◌, ◌+◌, ◌++◌, drop}
use Rattle.fx_eqs.specs.Textbook.{over_lags}
use Rattle.fx_textbook.proofs.terms.over_lags.Given as goal

abbrev pub invariant-loop-coef : goal.invariant-loop-coef
invariant-loop-coef l = record {
  lag : l.lag ≡ l.first + l.coef-index;
  reads : l.terms.items ++ over_lags l.row l.from l.lag (drop l.coef-index l.coefficients)
      ≡ l.fn.terms.items ++ over_lags l.row l.from l.first l.coefficients;
}
