use Rattle.std.proofs.Common.{◌≡◌, nat_lt, None}
use Rattle.fx_totals.specs.Kept.{bound_in}
use Rattle.fx_block.specs.Raising.{first_row}
use Rattle.fx_block.proofs.least.first_over.Given as goal

abbrev pub invariant-loop-j : goal.invariant-loop-j
invariant-loop-j l = first_row l.j (λ j. nat_lt (bound_in l.caps j) (bound_in l.next j)) ≡ None
