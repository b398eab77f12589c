use Rattle.fx_faults.proofs.FileFaults.{none_is_described}
use Rattle.fx_faults.proofs.laws.faulty_tables_describe_no_filter.Goals as goal

pub returns : goal.returns
returns c = none_is_described
