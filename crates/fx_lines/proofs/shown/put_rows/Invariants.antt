use Rattle.std.proofs.Common.{◌≡◌, ◌++◌}
use Rattle.fx_lines.specs.Filter.{rows_before}
use Rattle.fx_lines.proofs.shown.put_rows.Given as goal

abbrev pub invariant-loop-row : goal.invariant-loop-row
invariant-loop-row l = l.text.items ≡ l.fn.text.items ++ rows_before l.equations.terms l.row
