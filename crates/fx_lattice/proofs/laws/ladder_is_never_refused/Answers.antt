use Rattle.fx_lattice.proofs.NeverRefused.{ladder_never_refused}
use Rattle.fx_lattice.proofs.laws.ladder_is_never_refused.Goals as goal

pub returns : goal.returns
returns c = ladder_never_refused c.args.k.now c.args.v.now c.requires.order c.requires.taps
    c.what_fits_has_no_fault.ensures
