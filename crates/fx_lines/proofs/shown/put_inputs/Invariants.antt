use Rattle.std.proofs.Common.{◌≡◌, ◌++◌, drop}
use Rattle.fx_lines.specs.Filter.{input_lines}
use Rattle.fx_lines.proofs.shown.put_inputs.Given as goal

abbrev pub invariant-loop-j : goal.invariant-loop-j
invariant-loop-j l = l.text.items ++ input_lines l.filter.input_low l.j (drop l.j l.filter.inputs)
    ≡ l.fn.text.items ++ input_lines l.filter.input_low 0 l.filter.inputs
