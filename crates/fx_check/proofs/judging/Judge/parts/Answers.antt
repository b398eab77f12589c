use Rattle.std.proofs.Common.{◌≡◌, ◌<◌, ◌∙◌, length, length-set, subst, arith}
use Rattle.std.proofs.lemmas.List.Elements.{All-set}
use Rattle.fx_eqs.specs.Fits.{EquationsFit}
use Rattle.fx_error.specs.PartsOf.{PartsFit}
use Rattle.fx_check.specs.Report.{no_parts, parts_at}
use Rattle.fx_check.specs.Targets.{lengths_of, padded_net, target_count, targets_of}
use Rattle.fx_check.proofs.Outputs.{targets_long}
use Rattle.fx_check.proofs.Parting.{parts_listed}
use Rattle.fx_block.proofs.Places.{behind_stays, first_more}
use Rattle.fx_check.proofs.Sweeps.{parts_told}
use Rattle.fx_check.proofs.judging.Judge.parts.Goals as goal

pub split-requires : goal.split-requires
split-requires g c =
    let count : c.args.self.now.totals.filled ≡ target_count c.args.f.now c.args.p.now =
    c.requires.filled.count ∙ targets_long c.args.f.now c.args.p.now in (
      omega arith,
      (
        omega (arith, count),
        (
          c.input_bounds-bounds.ensures.fits,
          (c.row_bounds-x.ensures.count, c.row_bounds-x.ensures.fits),
        ),
      ),
    )

pub loop-o-preserved : goal.loop-o-preserved
loop-o-preserved g c =
    let f = c.args.f.now in
    let p = c.args.p.now in
    let cert = c.args.c.now in
    let system : EquationsFit f.equations = subst EquationsFit c.eqs.ensures.value c.systems_fit.ensures in
    let inside : c.loop-o.o < length c.loop-o.parts = omega arith in
    let output : c.loop-o.o < length f.outputs = omega arith in
    let parts = c.split.ensures.parts (padded_net g.row.N f p) (targets_of f p) (lengths_of f p cert)
    c.requires.filled in
    let here : c.split.result ≡ parts_at f p cert c.loop-o.o =
    parts_told f p cert c.filters_fit.ensures system c.programs_fit.ensures c.requires.counted.outputs g.row.N
    c.requires.room c.empty_rows_change_nothing.ensures c.requires.whole c.loop-o.o output
    c.split.result (rw (
      c.joint_rows-rows.ensures.value,
      c.input_bounds-bounds.ensures.value,
      c.row_bounds-x.ensures.value,
    ) at parts) in
    record {
      long = length-set c.loop-o.parts c.loop-o.o c.split.result ∙ c.loop-o.invariant.long;
      first = first_more no_parts c.loop-o.parts c.loop-o.o c.split.result (parts_at f p cert) inside
          c.loop-o.invariant.first here;
      behind = behind_stays no_parts c.loop-o.parts c.loop-o.o c.split.result c.loop-o.invariant.behind;
      small = All-set PartsFit c.loop-o.parts c.loop-o.o c.split.result c.split.ensures.fits
          c.loop-o.invariant.small;
    }

pub returns-clause-value : goal.returns-clause-value
returns-clause-value g c =
    parts_listed c.args.f.now c.args.p.now c.args.c.now c.loop-o.parts c.loop-o.o (omega arith)
    c.loop-o.invariant.long c.loop-o.invariant.first c.loop-o.invariant.behind
