use Rattle.fx_sweep.specs.declared.target.Place.TheVariants.{Rest}
use Rattle.fx_sweep.proofs.Weightless.{rest_is_small, rest_meets_none}
use Rattle.fx_sweep.proofs.numbers.test_rest.Goals as goal

pub returns-then-is_zero-clause-range : goal.returns-then-is_zero-clause-range
returns-then-is_zero-clause-range c =
    rest_meets_none (Rest c.args.i) c.args.carried (c.is_zero.ensures.0 c.if-is_zero.true)

pub returns-then-is_zero-clause-small : goal.returns-then-is_zero-clause-small
returns-then-is_zero-clause-small c = rest_is_small c.args.carried (c.is_zero.ensures.0 c.if-is_zero.true)
