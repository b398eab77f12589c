use Rattle.std.proofs.Common.{◌≡◌, ◌∙◌, ap, subst, take, arith, rules, FitsSigned}
use mir.Syntax.{w128}
use Rattle.std.proofs.lemmas.Int.{to_z-of_z}
use Rattle.fx_eqs.specs.Fits.{EquationsFit}
use Rattle.fx_check.specs.Targets.{lengths_of, targets_of}
use Rattle.fx_check.proofs.Sweeps.{can_be_filled, failure_of_range, range_told_of}
use Rattle.fx_check.proofs.judging.Judge.sweep.Goals as goal

pub fill-requires : goal.fill-requires
fill-requires g c =
    let system : EquationsFit c.args.f.now.equations = subst EquationsFit c.eqs.ensures.value c.systems_fit.ensures in
    let can = can_be_filled c.args.f.now c.args.p.now c.args.c.now c.filters_fit.ensures system
    c.programs_fit.ensures c.requires.counted.outputs g.row.N c.requires.room c.certificates_fit.ensures in (
      omega arith,
      (
        omega arith,
        (
          omega arith,
          rw (c.target_count-count.ensures.value, c.targets-targets.ensures, c.lengths-lengths.ensures) can,
        ),
      ),
    )

pub returns-in-Ok-clause-told : goal.returns-in-Ok-clause-told
returns-in-Ok-clause-told g c =
    let system : EquationsFit c.args.f.now.equations = subst EquationsFit c.eqs.ensures.value c.systems_fit.ensures in
    let targets : take c.target_count-count.result c.targets-targets.result ≡ targets_of c.args.f.now c.args.p.now =
    rw c.target_count-count.ensures.value c.targets-targets.ensures in
    let lengths : take c.target_count-count.result c.lengths-lengths.result
    ≡ lengths_of c.args.f.now c.args.p.now c.args.c.now =
    rw c.target_count-count.ensures.value c.lengths-lengths.ensures in
    ap failure_of_range c.in-Ok.ensures.range
    ∙ range_told_of c.args.f.now c.args.p.now c.args.c.now c.filters_fit.ensures system c.programs_fit.ensures
    c.requires.counted.outputs g.row.N c.requires.room c.empty_rows_change_nothing.ensures c.requires.whole _ _ _
    c.put_joint.ensures targets lengths

pub returns-in-Err-clause-told : goal.returns-in-Err-clause-told
returns-in-Err-clause-told g c =
    let system : EquationsFit c.args.f.now.equations = subst EquationsFit c.eqs.ensures.value c.systems_fit.ensures in
    let targets : take c.target_count-count.result c.targets-targets.result ≡ targets_of c.args.f.now c.args.p.now =
    rw c.target_count-count.ensures.value c.targets-targets.ensures in
    let lengths : take c.target_count-count.result c.lengths-lengths.result
    ≡ lengths_of c.args.f.now c.args.p.now c.args.c.now =
    rw c.target_count-count.ensures.value c.lengths-lengths.ensures in
    let fits : FitsSigned w128 c.in-Err.range.at.value = search rules in
    rw (to_z-of_z w128 c.in-Err.range.at.value fits)
    (ap failure_of_range c.in-Err.ensures.range
    ∙ range_told_of c.args.f.now c.args.p.now c.args.c.now c.filters_fit.ensures system c.programs_fit.ensures
    c.requires.counted.outputs g.row.N c.requires.room c.empty_rows_change_nothing.ensures c.requires.whole _ _ _
    c.put_joint.ensures targets lengths)
