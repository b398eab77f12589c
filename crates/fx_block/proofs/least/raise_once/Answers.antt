use Rattle.std.proofs.Common.{ap, ◌∙◌, subst, ◌^◌}
use Rattle.fx_totals.specs.Kept.{bound_in}
use Rattle.fx_block.specs.Raising.{ended_by}
use Rattle.fx_block.specs.Raising.Raises.{Slow}
use Rattle.fx_block.specs.Told.{Tells}
use Rattle.fx_block.proofs.Raised.{raise_past, within_caps}
use Rattle.fx_block.proofs.least.raise_once.Goals as goal

pub returns-clause-tells : goal.returns-clause-tells
returns-clause-tells g c =
    subst (λ next. Tells (ended_by c.args.rows (bound_in c.args.caps.now) (bound_in c.args.x.now) next (λ j.
    Slow j (bound_in c.args.x.now j) (next j))) c.end_of.result (bound_in c.args.x.now))
    c.raise.ensures.value c.end_of.ensures.tells

pub returns-clause-fits : goal.returns-clause-fits
returns-clause-fits g c slow =
    within_caps c.args.caps.now c.raise.new.next (2 ^ 62) c.args.rows c.requires.caps c.raise.ensures.fits
    (c.end_of.ensures.within slow)
    (λ j l. ap (λ f. f j) c.raise.ensures.value
    ∙ raise_past c.args.t.now c.args.rows (bound_in c.args.bounds.now) (bound_in c.args.x.now) j l)
