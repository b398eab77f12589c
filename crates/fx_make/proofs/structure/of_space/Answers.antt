use Rattle.std.proofs.Common.{ap, length}
use Rattle.fx_make.proofs.OfForm.{space_fits}
use Rattle.fx_make.proofs.structure.of_space.Goals as goal

pub space_form-requires : goal.space_form-requires
space_form-requires c =
    space_fits c.args.filter.now c.list.result.now c.coefficients.result.now (length c.inputs.result.now)
    (length c.outputs.result.now) c.filters_fit.ensures c.requires c.list.ensures.value c.coefficients.ensures.value
    (ap length c.inputs.ensures.value) (ap length c.outputs.ensures.value)
