use Rattle.fx_findings.proofs.FoundLines.{fault_line}
use Rattle.fx_findings.proofs.structure.structure_faults_are_one_line.Goals as goal

pub returns : goal.returns
returns c = fault_line
