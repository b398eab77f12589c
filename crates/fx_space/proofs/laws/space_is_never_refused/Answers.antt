use Rattle.fx_space.proofs.NeverRefused.{space_never_refused}
use Rattle.fx_space.proofs.laws.space_is_never_refused.Goals as goal

pub returns : goal.returns
returns c = space_never_refused c.args.sizes c.args.abcd.now c.requires c.what_fits_has_no_fault.ensures
