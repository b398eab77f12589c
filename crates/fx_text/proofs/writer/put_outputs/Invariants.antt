use Rattle.std.proofs.Common.{◌≡◌, ◌++◌, drop}
use Rattle.fx_text.specs.Writing.{output_lines}
use Rattle.fx_text.proofs.writer.put_outputs.Given as goal

abbrev pub invariant-loop-j : goal.invariant-loop-j
invariant-loop-j l = l.out.items ++ output_lines l.j (drop l.j l.rows) ≡ l.fn.out.items ++ output_lines 0 l.rows
