use Rattle.fx_lines.proofs.FaultLines.{code_line}
use Rattle.fx_lines.proofs.code_fault.code_faults_are_one_line.Goals as goal

pub returns : goal.returns
returns c = code_line
