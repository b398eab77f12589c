use Rattle.fx_math.proofs.Sums.{collect}
use Rattle.fx_math.proofs.sums_collect.Goals as goal

pub returns : goal.returns
returns c = collect
