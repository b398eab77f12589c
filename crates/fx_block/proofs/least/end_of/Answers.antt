use Rattle.std.proofs.Common.{sym}
use Rattle.fx_totals.specs.Kept.{bound_in}
use Rattle.fx_block.proofs.Raised.{below_caps}
use Rattle.fx_block.proofs.least.end_of.Goals as goal

pub returns-in-Some-first_changed-clause-within : goal.returns-in-Some-first_changed-clause-within
returns-in-Some-first_changed-clause-within c slow =
    below_caps c.args.rows (bound_in c.args.caps.now) (bound_in c.args.next.now) (sym c.in-None.ensures.first)
