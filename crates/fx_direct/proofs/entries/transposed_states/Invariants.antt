use Rattle.std.proofs.Common.{◌≡◌, ◌++◌}
use Rattle.fx_direct.specs.Forms.{df2t_row}
use Rattle.fx_math.specs.Sums.{joined}
use Rattle.fx_direct.proofs.entries.transposed_states.Given as goal

abbrev pub invariant-loop-i : goal.invariant-loop-i
invariant-loop-i l = l.entries.items ≡ l.fn.entries.items ++ joined l.i (df2t_row l.b l.a l.count)
