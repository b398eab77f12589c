use Rattle.fx_math.proofs.Residue.{wrap_fits}
use Rattle.fx_math.proofs.residue_keeps_what_fits.Goals as goal

pub returns : goal.returns
returns c w z h f = wrap_fits w z h f
