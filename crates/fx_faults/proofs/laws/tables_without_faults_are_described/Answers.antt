use Rattle.fx_faults.proofs.DescribedLimits.{faultless_law}
use Rattle.fx_faults.proofs.laws.tables_without_faults_are_described.Goals as goal

pub returns : goal.returns
returns c = faultless_law
