use Rattle.fx_decimal.proofs.Continued.{empty_law}
use Rattle.fx_decimal.proofs.read.empty_is_unfinished.Goals as goal

pub returns : goal.returns
returns c = empty_law
