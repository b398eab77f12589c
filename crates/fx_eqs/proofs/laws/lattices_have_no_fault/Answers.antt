use Rattle.fx_eqs.proofs.Lattices.{lattice_has_no_fault}
use Rattle.fx_eqs.proofs.laws.lattices_have_no_fault.Goals as goal

pub returns : goal.returns
returns c = lattice_has_no_fault c.args.k.now c.args.v.now c.requires.order c.requires.taps
