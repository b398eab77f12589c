use Rattle.std.proofs.Common.{◌≡◌, ◌==◌, not, None}
use Rattle.fx_totals.specs.Kept.{bound_in}
use Rattle.fx_block.specs.Raising.{first_row}
use Rattle.fx_block.proofs.least.first_changed.Given as goal

abbrev pub invariant-loop-j : goal.invariant-loop-j
invariant-loop-j l = first_row l.j (λ j. not (bound_in l.next j == bound_in l.x j)) ≡ None
