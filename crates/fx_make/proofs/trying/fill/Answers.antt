use Rattle.std.proofs.Common.{◌≡◌, ◌+◌, ◌*◌, ◌≤◌, ap, sym, ◌∙◌, subst, length, take, lit<}
use Rattle.fx_eqs.specs.Fits.{EquationsFit}
use Rattle.fx_totals.specs.Series.{AreUpToLength, CanBeSeries}
use Rattle.fx_make.specs.Targets.{target_count, targets_of}
use Rattle.fx_make.proofs.Outputs.{targets_long}
use Rattle.fx_make.proofs.Sweeps.{can_be_series}
use Rattle.fx_make.proofs.trying.fill.Goals as goal

pub fill-requires : goal.fill-requires
fill-requires g c =
    let f = c.args.f.now in
    let d = c.args.d.now in
    let system : EquationsFit f.equations = subst EquationsFit c.eqs.ensures.value c.systems_fit.ensures in
    let same : take c.target_count-count.result c.targets-targets.result ≡ targets_of f d.rows =
    ap (λ n. take n c.targets-targets.result) c.target_count-count.ensures.value ∙ c.targets-targets.ensures in
    let can : CanBeSeries g.row.N (targets_of f d.rows) f.settings.lengths =
    can_be_series f d c.filters_fit.ensures system c.requires.rows c.empty_rows_change_nothing.ensures g.row.N
    c.requires.room in
    let placed : CanBeSeries g.row.N (take c.target_count-count.result c.targets-targets.result) c.lengths.result.now =
    subst (λ targets. CanBeSeries g.row.N targets c.lengths.result.now) (sym same)
    (subst (λ lengths. CanBeSeries g.row.N (targets_of f d.rows) lengths) (sym c.lengths.ensures.value) can) in
    (lit< tt, (lit< tt, (lit< tt, placed)))

pub returns-clause-made : goal.returns-clause-made
returns-clause-made g c most within =
    let f = c.args.f.now in
    let d = c.args.d.now in
    let same : take c.target_count-count.result c.targets-targets.result ≡ targets_of f d.rows =
    ap (λ n. take n c.targets-targets.result) c.target_count-count.ensures.value ∙ c.targets-targets.ensures in
    let size : length (take c.target_count-count.result c.targets-targets.result) ≡ target_count f d.rows =
    ap length same ∙ targets_long f d.rows in
    subst (λ n. c.fill.new.sweep.made ≤ c.args.sweep.now.made + n * most) size
    (c.fill.ensures.made most
    (subst (λ lengths. AreUpToLength most lengths) (sym c.lengths.ensures.value) within))
