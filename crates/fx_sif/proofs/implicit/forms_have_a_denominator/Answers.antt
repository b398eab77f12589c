use Rattle.fx_sif.specs.Inside.{form_of}
use Rattle.fx_sif.proofs.Widest.{form_over_widest}
use Rattle.fx_sif.proofs.implicit.forms_have_a_denominator.Goals as goal

pub returns : goal.returns
returns c = rw (← c.form.view_is)
    (form_over_widest (form_of c.form.inside) (rw c.deref.ensures.value at c.coefficients_fit.ensures))
