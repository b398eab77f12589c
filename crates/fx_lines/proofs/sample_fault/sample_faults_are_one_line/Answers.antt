use Rattle.fx_lines.proofs.FaultLines.{sample_line}
use Rattle.fx_lines.proofs.sample_fault.sample_faults_are_one_line.Goals as goal

pub returns : goal.returns
returns c = sample_line
