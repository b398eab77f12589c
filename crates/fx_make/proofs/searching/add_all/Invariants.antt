use Rattle.std.proofs.Common.{◌≡◌, ◌++◌}
use Rattle.std.specs.Prelude.{Some}
use Rattle.fx_math.specs.Sums.{joined}
use Rattle.fx_totals.specs.Filled.{length_in}
use Rattle.fx_make.specs.Candidates.{candidate_at}
use Rattle.fx_make.specs.Search.{failed_of}
use Rattle.fx_make.proofs.searching.add_all.Given as goal

abbrev pub invariant-loop-l : goal.invariant-loop-l
invariant-loop-l l =
    l.fails.items ≡ l.fn.fails.items ++ joined l.l (λ i.
    failed_of (candidate_at l.grid.guard l.grid.fraction (length_in l.f.settings.lengths i)) (Some l.why))
