use Rattle.fx_block.proofs.AllTime.{totals_serve}
use Rattle.fx_block.proofs.laws.totals_serve_for_all_time.Goals as goal

pub returns : goal.returns
returns c = totals_serve c.totals_bound.ensures c.bounds_hold_for_all_time.ensures.rows
    c.bounds_hold_for_all_time.ensures.targets
