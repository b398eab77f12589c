use Rattle.fx_block.proofs.FirstFailure.{none_fails}
use Rattle.fx_block.proofs.certified.none_fails_where_all_hold.Goals as goal

pub returns : goal.returns
returns c = none_fails
