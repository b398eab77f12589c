use Rattle.std.proofs.Common.{◌≡◌, ◌++◌, drop}
use Rattle.fx_lines.specs.Verdict.{error_lines}
use Rattle.fx_lines.proofs.verdict.put_errors.Given as goal

abbrev pub invariant-loop-output : goal.invariant-loop-output
invariant-loop-output l = l.text.items ++ error_lines l.output (drop l.output l.certificate.errors)
    ≡ l.fn.text.items ++ error_lines 0 l.certificate.errors
