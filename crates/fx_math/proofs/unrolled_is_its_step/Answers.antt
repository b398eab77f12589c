use Rattle.fx_math.proofs.Unroll.{unrolled_step}
use Rattle.fx_math.proofs.unrolled_is_its_step.Goals as goal

pub returns : goal.returns
returns c = unrolled_step
