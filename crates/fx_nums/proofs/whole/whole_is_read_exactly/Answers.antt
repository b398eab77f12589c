use Rattle.fx_nums.proofs.WholeLaws.{whole_law}
use Rattle.fx_nums.proofs.whole.whole_is_read_exactly.Goals as goal

pub returns : goal.returns
returns c = whole_law
