use Rattle.fx_findings.proofs.FoundLines.{job}
use Rattle.fx_findings.proofs.large.jobs_are_lines.Goals as goal

pub returns : goal.returns
returns c = job
