use Rattle.fx_math.proofs.Division.{ceil_above, ceil_below}
use Rattle.fx_math.proofs.ceiling_is_least_above.Goals as goal

pub returns : goal.returns
returns c z n h = (ceil_above z n h, ceil_below z n h)
