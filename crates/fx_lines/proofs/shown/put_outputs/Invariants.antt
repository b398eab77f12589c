use Rattle.std.proofs.Common.{◌≡◌, ◌++◌, drop}
use Rattle.fx_lines.specs.Filter.{output_lines}
use Rattle.fx_lines.proofs.shown.put_outputs.Given as goal

abbrev pub invariant-loop-j : goal.invariant-loop-j
invariant-loop-j l = l.text.items ++ output_lines l.j (drop l.j l.filter.outputs)
    ≡ l.fn.text.items ++ output_lines 0 l.filter.outputs
