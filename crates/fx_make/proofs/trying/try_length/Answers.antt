use Rattle.std.proofs.Common.{◌≡◌, ◌∙◌, subst, length, replicate, lit<}
use Rattle.fx_eqs.specs.Fits.{EquationsFit}
use Rattle.fx_sweep.specs.Swept.{whole_in}
use Rattle.fx_totals.specs.Filled.{Filled, length_in}
use Rattle.fx_totals.specs.Kept.{bound_in}
use Rattle.fx_block.specs.Candidate.{candidate_range}
use Rattle.fx_make.specs.Targets.{padded_net, target_count, targets_of}
use Rattle.fx_make.proofs.Outputs.{targets_long}
use Rattle.fx_make.proofs.Sweeps.{range_is_told}
use Rattle.fx_make.proofs.Telling.{no_range, told_by_range}
use Rattle.fx_make.proofs.trying.try_length.Goals as goal

pub try_totals-requires : goal.try_totals-requires
try_totals-requires g c =
    let f = c.args.f.now in
    let d = c.args.d.now in
    let is : Filled c.in-Ok.totals.now (padded_net g.row.N f d.rows) (targets_of f d.rows)
    (replicate (length (targets_of f d.rows)) (length_in f.settings.lengths c.args.l)) =
    c.in-Ok.ensures.filled (padded_net g.row.N f d.rows) (targets_of f d.rows) f.settings.lengths c.requires.series in
    let filled : c.in-Ok.totals.now.filled ≡ target_count f d.rows = is.count ∙ targets_long f d.rows in
    (lit< tt, (c.requires.rows, (c.requires.room, (filled, (c.requires.count, (c.requires.spare, c.requires.errors))))))

pub returns-in-Ok-clause-told : goal.returns-in-Ok-clause-told
returns-in-Ok-clause-told g c =
    let f = c.args.f.now in
    let d = c.args.d.now in
    let m = length_in f.settings.lengths c.args.l in
    let system : EquationsFit f.equations = subst EquationsFit c.eqs.ensures.value c.systems_fit.ensures in
    c.try_totals.ensures.told m
    (c.in-Ok.ensures.filled (padded_net g.row.N f d.rows) (targets_of f d.rows) f.settings.lengths c.requires.series)
    (no_range (candidate_range f d.rows m)
    (c.in-Ok.ensures.first (padded_net g.row.N f d.rows) (targets_of f d.rows) f.settings.lengths c.requires.series
    ∙ range_is_told f d c.filters_fit.ensures system c.requires.rows c.empty_rows_change_nothing.ensures g.row.N
    c.requires.room m))

pub returns-in-Err-clause-told : goal.returns-in-Err-clause-told
returns-in-Err-clause-told g c =
    let f = c.args.f.now in
    let d = c.args.d.now in
    let m = length_in f.settings.lengths c.args.l in
    let system : EquationsFit f.equations = subst EquationsFit c.eqs.ensures.value c.systems_fit.ensures in
    told_by_range f d.rows m c.in-Err.range (bound_in c.args.x.now) (whole_in c.args.e.now)
    (c.in-Err.ensures.first (padded_net g.row.N f d.rows) (targets_of f d.rows) f.settings.lengths c.requires.series
    ∙ range_is_told f d c.filters_fit.ensures system c.requires.rows c.empty_rows_change_nothing.ensures g.row.N
    c.requires.room m)
