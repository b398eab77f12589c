use Rattle.fx_lines.proofs.ReportedLines.{report}
use Rattle.fx_lines.proofs.report.reports_are_lines.Goals as goal

pub returns : goal.returns
returns c = report
