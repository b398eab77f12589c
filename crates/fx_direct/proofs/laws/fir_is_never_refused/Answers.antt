use Rattle.fx_direct.proofs.NeverRefused.{fir_never_refused}
use Rattle.fx_direct.proofs.laws.fir_is_never_refused.Goals as goal

pub returns : goal.returns
returns c = fir_never_refused c.args.b.now c.requires.low c.requires.high c.what_fits_has_no_fault.ensures
