use Rattle.std.proofs.Common.{◌≡◌}
use Rattle.fx_gain.specs.Rows.{row_targets}
use Rattle.fx_gain.proofs.lengths.row_targets.Given as goal

abbrev pub invariant-loop-i : goal.invariant-loop-i
invariant-loop-i l = l.targets.items ≡ row_targets l.i
