use Rattle.fx_totals.proofs.Bounded.{targets_lie_between}
use Rattle.fx_totals.proofs.laws.targets_lie_between.Goals as goal

pub returns : goal.returns
returns c = targets_lie_between c.runs_are_blocks.ensures.blocks c.runs_are_blocks.ensures.bounds
