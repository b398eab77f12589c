use Rattle.std.proofs.Common.{◌≡◌, ◌++◌}
use Rattle.fx_math.specs.Sums.{joined}
use Rattle.fx_eqs.specs.TextbookRuns.{matrix_row}
use Rattle.fx_sif.specs.Entries.{across}
use Rattle.fx_space.proofs.form.add_matrix.Given as goal

abbrev pub invariant-loop-i : goal.invariant-loop-i
invariant-loop-i l = l.entries.items
    ≡ l.fn.entries.items ++ joined l.i (λ i. across l.block i 0 (matrix_row l.columns l.matrix i))
