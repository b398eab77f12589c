use Rattle.fx_lattice.proofs.lowering.+down.Given as goal

abbrev pub decreases-down : goal.decreases-down
decreases-down l = l.i
