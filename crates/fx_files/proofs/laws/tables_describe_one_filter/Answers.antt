use Rattle.fx_files.proofs.HeldFilter.{describes_one}
use Rattle.fx_files.proofs.laws.tables_describe_one_filter.Goals as goal

pub returns : goal.returns
returns c = describes_one
