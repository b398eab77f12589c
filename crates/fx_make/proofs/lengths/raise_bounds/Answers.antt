use Rattle.std.proofs.Common.{◌≡◌, subst, length, replicate}
use Rattle.fx_eqs.specs.Fits.{EquationsFit}
use Rattle.fx_totals.specs.Filled.{length_in}
use Rattle.fx_totals.specs.Kept.{bound_in}
use Rattle.fx_block.specs.Candidate.{candidate_count}
use Rattle.fx_block.specs.Formats.{bound_of}
use Rattle.fx_block.specs.Raising.{least_by_raises}
use Rattle.fx_block.specs.Told.{Tells}
use Rattle.fx_make.specs.Lengths.{raises_of}
use Rattle.fx_make.specs.Targets.{padded_net, targets_of}
use Rattle.fx_make.proofs.Sweeps.{leading_is, raises_are}
use Rattle.fx_make.proofs.Telling.{raises_told}
use Rattle.fx_make.proofs.lengths.raise_bounds.Goals as goal

pub returns-clause-told : goal.returns-clause-told
returns-clause-told g c m filled =
    let f = c.args.f.now in
    let d = c.args.d.now in
    let k = c.args.totals.now in
    let lengths = replicate (length (targets_of f d.rows)) m in
    let caps = bound_in c.caps-caps.result in
    let x = bound_in c.least_bounds.new.x in
    let system : EquationsFit f.equations = subst EquationsFit c.eqs.ensures.value c.systems_fit.ensures in
    let leading : k.leading ≡ candidate_count f d.rows =
    leading_is f d c.filters_fit.ensures system c.requires.rows c.empty_rows_change_nothing.ensures g.row.N
    c.requires.room k m filled in
    let same : least_by_raises (padded_net g.row.N f d.rows) k.leading (length_in lengths) (bound_of f) caps
    ≡ raises_of f d.rows m =
    raises_are f d c.filters_fit.ensures system c.requires.rows c.empty_rows_change_nothing.ensures g.row.N
    c.requires.room k m filled caps c.caps-caps.ensures.value in
    let end = c.least_bounds.ensures.end (padded_net g.row.N f d.rows) (targets_of f d.rows) lengths filled in
    let bounded : Tells (least_by_raises (padded_net g.row.N f d.rows) k.leading (length_in lengths) (bound_of f) caps)
    c.least_bounds.result x =
    subst (λ b. Tells (least_by_raises (padded_net g.row.N f d.rows) k.leading (length_in lengths) b caps)
    c.least_bounds.result x) c.input_bounds-bounds.ensures.value end in
    raises_told (raises_of f d.rows m) c.least_bounds.result c.bounds_fail.result x
    (subst (λ r. Tells r c.least_bounds.result x) same bounded) c.bounds_fail.ensures
