use Rattle.fx_lines.proofs.VerdictLines.{cert_line}
use Rattle.fx_lines.proofs.cert_fault.cert_faults_are_one_line.Goals as goal

pub returns : goal.returns
returns c = cert_line
