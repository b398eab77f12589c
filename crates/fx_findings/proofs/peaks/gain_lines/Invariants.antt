use Rattle.std.proofs.Common.{◌≡◌}
use Rattle.fx_math.specs.Sums.{joined}
use Rattle.fx_findings.specs.Peaks.{output_lines}
use Rattle.fx_findings.proofs.peaks.gain_lines.Given as goal

abbrev pub invariant-loop-output : goal.invariant-loop-output
invariant-loop-output l = l.text.items ≡ joined l.output (output_lines l.peaks)
