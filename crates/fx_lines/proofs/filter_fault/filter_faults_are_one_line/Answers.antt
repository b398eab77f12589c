use Rattle.fx_lines.proofs.PrintedLines.{one_line}
use Rattle.fx_lines.proofs.filter_fault.filter_faults_are_one_line.Goals as goal

pub returns : goal.returns
returns c = one_line
