use Rattle.fx_findings.proofs.FoundLines.{design, no_design}
use Rattle.fx_findings.proofs.design.designs_are_lines.Goals as goal

pub returns-clause-found : goal.returns-clause-found
returns-clause-found c = design

pub returns-clause-failed : goal.returns-clause-failed
returns-clause-failed c = no_design
