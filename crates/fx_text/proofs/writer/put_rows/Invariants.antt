use Rattle.std.proofs.Common.{◌≡◌, ◌++◌, drop}
use Rattle.fx_text.specs.Writing.{rows_lines}
use Rattle.fx_text.proofs.writer.put_rows.Given as goal

abbrev pub invariant-loop-row : goal.invariant-loop-row
invariant-loop-row l = l.out.items ++ rows_lines l.row (drop l.row l.program.rows)
    ≡ l.fn.out.items ++ rows_lines 0 l.program.rows
