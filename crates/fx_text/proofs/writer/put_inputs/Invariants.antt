use Rattle.std.proofs.Common.{◌≡◌, ◌++◌, drop}
use Rattle.fx_text.specs.Writing.{input_lines}
use Rattle.fx_text.proofs.writer.put_inputs.Given as goal

abbrev pub invariant-loop-j : goal.invariant-loop-j
invariant-loop-j l = l.out.items ++ input_lines l.j (drop l.j l.program.inputs)
    ≡ l.fn.out.items ++ input_lines 0 l.program.inputs
