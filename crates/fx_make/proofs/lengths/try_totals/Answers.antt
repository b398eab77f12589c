use Rattle.std.proofs.Common.{subst}
use Rattle.fx_eqs.specs.Fits.{EquationsFit}
use Rattle.fx_sweep.specs.Swept.{whole_in}
use Rattle.fx_totals.specs.Kept.{bound_in}
use Rattle.fx_make.specs.Lengths.{TellsRaises, kept_pairs, raises_of}
use Rattle.fx_make.proofs.Sweeps.{pair_total_is}
use Rattle.fx_make.proofs.Telling.{told_by_bounds, told_by_errors}
use Rattle.fx_make.proofs.lengths.try_totals.Goals as goal

pub returns-in-Some-clause-told : goal.returns-in-Some-clause-told
returns-in-Some-clause-told g c m filled none =
    told_by_bounds c.args.f.now c.args.d.now.rows m c.in-Some.fail (bound_in c.raise_bounds.new.x)
    (whole_in c.args.e.now) none
    (subst (λ fail. TellsRaises (raises_of c.args.f.now c.args.d.now.rows m) fail (bound_in c.raise_bounds.new.x))
    c.in-Some.is (c.raise_bounds.ensures.told m filled))

pub returns-clause-told : goal.returns-clause-told
returns-clause-told g c m filled none =
    let f = c.args.f.now in
    let d = c.args.d.now in
    let system : EquationsFit f.equations = subst EquationsFit c.eqs.ensures.value c.systems_fit.ensures in
    told_by_errors f d.rows m c.put_errors.result (bound_in c.raise_bounds.new.x)
    (kept_pairs f d.rows c.args.totals.now (bound_in c.raise_bounds.new.x)) (whole_in c.put_errors.new.e) none
    (subst (λ fail. TellsRaises (raises_of f d.rows m) fail (bound_in c.raise_bounds.new.x))
    c.in_default.is (c.raise_bounds.ensures.told m filled))
    (λ o l. pair_total_is f d c.filters_fit.ensures system c.requires.rows c.empty_rows_change_nothing.ensures g.row.N
    c.requires.room c.args.totals.now m filled o (bound_in c.raise_bounds.new.x) l)
    c.put_errors.ensures.told c.put_errors.ensures.put
