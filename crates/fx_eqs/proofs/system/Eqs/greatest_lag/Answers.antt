use Rattle.std.proofs.Common.{◌∙◌, ap}
use Rattle.fx_eqs.specs.Lags.{greatest_lag}
use Rattle.fx_eqs.proofs.SystemsFit.{all_kept, lag_high}
use Rattle.fx_eqs.proofs.system.Eqs.greatest_lag.Goals as goal

pub returns-clause-value : goal.returns-clause-value
returns-clause-value c =
    let s = c.self.inside in
    let same = all_kept s.rows s.inputs s.terms.items c.self.invariant.fits.terms in
    rw (← c.self.view_is) (c.greatest_lag.ensures.value
    ∙ ap (greatest_lag c.args.source) (rw (c.deref.ensures.value) same))

pub returns-clause-high : goal.returns-clause-high
returns-clause-high c =
    let s = c.self.inside in
    let high = lag_high s.rows s.inputs c.args.source s.terms.items c.self.invariant.fits.terms in
    rw (returns-clause-value c) (rw (← c.self.view_is) high)
