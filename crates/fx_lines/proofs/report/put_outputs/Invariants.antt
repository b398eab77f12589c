use Rattle.std.proofs.Common.{◌≡◌, ◌++◌, drop}
use Rattle.fx_lines.specs.Report.{parts_lines}
use Rattle.fx_lines.proofs.report.put_outputs.Given as goal

abbrev pub invariant-loop-output : goal.invariant-loop-output
invariant-loop-output l = l.text.items ++ parts_lines l.parts l.output (drop l.output l.filter.outputs)
    ≡ l.fn.text.items ++ parts_lines l.parts 0 l.filter.outputs
