use Rattle.fx_math.proofs.Sums.{total_swap}
use Rattle.fx_math.proofs.sums_exchange.Goals as goal

pub returns : goal.returns
returns c = total_swap
