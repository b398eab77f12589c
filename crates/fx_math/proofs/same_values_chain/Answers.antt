use Rattle.fx_math.proofs.Values.{same_chains}
use Rattle.fx_math.proofs.same_values_chain.Goals as goal

pub returns : goal.returns
returns c = same_chains
