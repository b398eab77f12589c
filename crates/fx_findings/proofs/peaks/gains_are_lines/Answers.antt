use Rattle.fx_findings.proofs.FoundLines.{peak, no_length}
use Rattle.fx_findings.proofs.peaks.gains_are_lines.Goals as goal

pub returns-clause-gain : goal.returns-clause-gain
returns-clause-gain c = peak

pub returns-clause-failed : goal.returns-clause-failed
returns-clause-failed c = no_length
