use Rattle.std.proofs.Common.{◌≡◌, ◌++◌}
use Rattle.fx_math.specs.Sums.{joined}
use Rattle.fx_cascade.specs.Cascades.{df2t_states}
use Rattle.fx_cascade.proofs.sections.add_df2t_states.Given as goal

abbrev pub invariant-loop-i : goal.invariant-loop-i
invariant-loop-i l = l.entries.items ≡ l.fn.entries.items ++ joined l.i (df2t_states l.sections)
