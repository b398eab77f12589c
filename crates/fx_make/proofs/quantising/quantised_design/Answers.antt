use Rattle.fx_make.proofs.FormatsOf.{formats_fit}
use Rattle.fx_make.proofs.quantising.quantised_design.Goals as goal

pub quantise-requires-clause-formats : goal.quantise-requires-clause-formats
quantise-requires-clause-formats c =
    formats_fit c.args.f.now c.args.form.now.sizes.y c.formats.result c.filters_fit.ensures c.requires.ports.outputs
    c.formats.ensures
