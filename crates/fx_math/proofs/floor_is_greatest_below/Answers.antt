use Rattle.fx_math.proofs.Division.{floor_below, floor_above}
use Rattle.fx_math.proofs.floor_is_greatest_below.Goals as goal

pub returns : goal.returns
returns c z n h = (floor_below z n h, floor_above z n h)
