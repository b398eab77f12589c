use Rattle.fx_faults.proofs.FileFaults.{no_table_law}
use Rattle.fx_faults.proofs.laws.no_table_is_told_exactly.Goals as goal

pub returns : goal.returns
returns c = no_table_law
