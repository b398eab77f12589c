use Rattle.std.proofs.Common.{nat_lt, sym, ◌∙◌}
use Rattle.fx_totals.specs.Kept.{bound_in}
use Rattle.fx_block.proofs.Raised.{first_stays}
use Rattle.fx_block.proofs.least.first_over.Goals as goal

pub returns-then-passes-clause-first : goal.returns-then-passes-clause-first
returns-then-passes-clause-first c =
    sym (first_stays c.loop-j.j c.args.rows (λ j.
    nat_lt (bound_in c.args.caps.now j) (bound_in c.args.next.now j)) c.loop-j-test.true c.loop-j.invariant
    (sym c.passes.ensures ∙ c.if-passes.true))
