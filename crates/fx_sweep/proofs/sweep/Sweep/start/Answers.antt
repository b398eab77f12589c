use Rattle.fx_sweep.proofs.Sweeping.{started_fits}
use Rattle.fx_sweep.proofs.sweep.Sweep.start.Goals as goal

pub invariant_of-self : goal.invariant_of-self
invariant_of-self g c =
    started_fits g.row.N c.args.target c.start.new.self
    (c.start.ensures.long g.row.N c.self.invariant.numbers.long) c.requires c.start.ensures.begun
    c.start.ensures.widths c.start.ensures.row_gains c.start.ensures.input_gains
