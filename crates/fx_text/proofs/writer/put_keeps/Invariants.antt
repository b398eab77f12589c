use Rattle.std.proofs.Common.{◌≡◌, ◌++◌, ◌-◌}
use Rattle.fx_text.specs.Writing.{keep_lines}
use Rattle.fx_text.proofs.writer.put_keeps.Given as goal

abbrev pub invariant-loop-row : goal.invariant-loop-row
invariant-loop-row l = l.out.items ++ keep_lines l.row (l.rows - l.row) ≡ l.fn.out.items ++ keep_lines 0 l.rows
