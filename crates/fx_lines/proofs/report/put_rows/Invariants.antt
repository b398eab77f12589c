use Rattle.std.proofs.Common.{◌≡◌, ◌++◌}
use Rattle.fx_math.specs.Sums.{joined}
use Rattle.fx_lines.specs.Report.{row_line}
use Rattle.fx_lines.proofs.report.put_rows.Given as goal

abbrev pub invariant-loop-row : goal.invariant-loop-row
invariant-loop-row l = l.text.items ≡ l.fn.text.items ++ joined l.row (row_line l.program l.certificate)
