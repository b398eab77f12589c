use Rattle.std.proofs.Common.{◌≡◌, drop}
use Rattle.fx_code.specs.Limits.{width_fault}
use Rattle.fx_code.proofs.checks.width_fault.Given as goal

abbrev pub invariant-loop-width : goal.invariant-loop-width
invariant-loop-width l = width_fault (drop l.width-index l.widths) ≡ width_fault l.widths
