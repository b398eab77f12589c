use Rattle.std.proofs.Common.{◌≡◌, ◌<◌, pos, ap₂, ◌∙◌, length, length-set, subst, arith, rules, FitsSigned}
use mir.Syntax.{w128}
use Rattle.std.proofs.lemmas.Int.{to_z-of_z}
use Rattle.fx_eqs.specs.Fits.{EquationsFit}
use Rattle.fx_sweep.specs.Target.{start_of}
use Rattle.fx_totals.specs.Filled.{length_in, target_in}
use Rattle.fx_totals.specs.Totals.{target_total}
use Rattle.fx_check.specs.Targets.{lengths_of, padded_net, target_count, targets_of}
use Rattle.fx_check.proofs.Outputs.{targets_long}
use Rattle.fx_block.proofs.Places.{first_more}
use Rattle.fx_check.proofs.Sweeps.{has_totals, padded_total}
use Rattle.fx_check.proofs.judging.Judge.totals.Goals as goal

pub total-requires : goal.total-requires
total-requires g c =
    let count : c.args.self.now.totals.filled ≡ target_count c.args.f.now c.args.p.now =
    c.requires.filled.count ∙ targets_long c.args.f.now c.args.p.now in (
      omega arith,
      (
        omega (arith, count),
        (
          c.input_bounds-bounds.ensures.fits,
          (c.row_bounds-x.ensures.count, c.row_bounds-x.ensures.fits),
        ),
      ),
    )

pub loop-t-preserved : goal.loop-t-preserved
loop-t-preserved g c =
    let inside : c.loop-t.t < length c.loop-t.totals = omega arith in
    let fits : FitsSigned w128 c.total.result = search rules in
    let f = c.args.f.now in
    let p = c.args.p.now in
    let cert = c.args.c.now in
    let here : c.total.result ≡ padded_total g.row.N f p cert c.loop-t.t =
    c.total.ensures.total (padded_net g.row.N f p) (targets_of f p) (lengths_of f p cert) c.requires.filled
    ∙ ap₂ (λ bounds rows.
    target_total (padded_net g.row.N f p) (start_of (target_in (targets_of f p) c.loop-t.t))
    (length_in (lengths_of f p cert) c.loop-t.t) bounds rows)
    c.input_bounds-bounds.ensures.value c.row_bounds-x.ensures.value in
    rw (to_z-of_z w128 c.total.result fits) (record {
      long = length-set c.loop-t.totals c.loop-t.t c.total.result ∙ c.loop-t.invariant.long;
      first = first_more (pos 0) c.loop-t.totals c.loop-t.t c.total.result (padded_total g.row.N f p cert) inside
          c.loop-t.invariant.first here;
    })

pub returns : goal.returns
returns g c =
    let system : EquationsFit c.args.f.now.equations = subst EquationsFit c.eqs.ensures.value c.systems_fit.ensures in
    has_totals c.args.f.now c.args.p.now c.args.c.now c.filters_fit.ensures system c.programs_fit.ensures
    c.requires.counted.outputs g.row.N c.requires.room c.empty_rows_change_nothing.ensures c.requires.whole
    c.loop-t.totals
    (λ t l. c.loop-t.invariant.first t (omega (arith, l)))
