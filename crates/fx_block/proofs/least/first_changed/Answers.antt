use Rattle.std.proofs.Common.{◌==◌, not, sym, ◌∙◌}
use Rattle.fx_totals.specs.Kept.{bound_in}
use Rattle.fx_block.proofs.Raised.{first_stays}
use Rattle.fx_block.proofs.least.first_changed.Goals as goal

pub returns-then-has_changed-clause-first : goal.returns-then-has_changed-clause-first
returns-then-has_changed-clause-first c =
    sym (first_stays c.loop-j.j c.args.rows (λ j. not (bound_in c.args.next.now j == bound_in c.args.x.now j))
    c.loop-j-test.true c.loop-j.invariant (sym c.has_changed.ensures ∙ c.if-has_changed.true))
