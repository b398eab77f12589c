use Rattle.std.proofs.Common.{All, arith, subst}
use Rattle.fx_totals.specs.Kept.{bound_in}
use Rattle.fx_block.specs.Made.{IsCertificateOf}
use Rattle.fx_make.specs.Designs.{ErrorFits}
use Rattle.fx_make.proofs.MadeCertificates.{certificate_fits, certificate_of}
use Rattle.fx_make.proofs.MadePrograms.{on_value}
use Rattle.fx_make.proofs.made.made_certificate.Goals as goal

pub build-requires : goal.build-requires
build-requires c =
    certificate_fits c.args.f.now c.args.d.now c.args.moments c.row_count.result c.args.x.now c.args.e.now
    c.filters_fit.ensures c.requires.rows
    (subst (All ErrorFits) c.outputs.ensures.value c.errors_are_small.ensures)
    c.totals_grow.ensures.none c.requires.bounds c.requires.errors c.requires.passing c.requires.low c.requires.high
    c.row_count.ensures.value c.row_count.ensures.high (omega (arith, c.row_count.ensures.value, c.requires.count))

pub returns : goal.returns
returns c =
    on_value c.build.result _ _ (IsCertificateOf c.args.f.now c.args.d.now.rows c.args.moments (bound_in c.args.x.now))
    (λ r same again. certificate_of c.args.f.now c.args.d.now c.args.moments c.row_count.result c.args.x.now
    c.args.e.now r c.requires.errors c.requires.passing c.row_count.ensures.value
    (omega (arith, c.row_count.ensures.value, c.requires.count)) same)
    c.build.ensures c.build.ensures
