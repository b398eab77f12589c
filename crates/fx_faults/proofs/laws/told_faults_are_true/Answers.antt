use Rattle.fx_faults.proofs.FileFaults.{faults_are_true}
use Rattle.fx_faults.proofs.laws.told_faults_are_true.Goals as goal

pub returns : goal.returns
returns c = faults_are_true
