use Rattle.fx_sweep.proofs.Sweeping.{fresh_fits}
use Rattle.fx_sweep.proofs.sweep.Sweep.new.Goals as goal

pub invariant_of-result : goal.invariant_of-result
invariant_of-result g c =
    fresh_fits g.row.N c.in_ok-new.field-0 c.in_ok-new.ensures.long c.in_ok-new.ensures.carried
    c.in_ok-new.ensures.widths c.in_ok-new.ensures.row_gains c.in_ok-new.ensures.input_gains
