use Rattle.fx_eqs.proofs.NoFault.{what_fits}
use Rattle.fx_eqs.proofs.laws.what_fits_has_no_fault.Goals as goal

pub returns : goal.returns
returns c = what_fits
