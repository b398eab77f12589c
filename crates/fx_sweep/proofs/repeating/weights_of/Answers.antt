use Rattle.std.proofs.Common.{arith}
use Rattle.std.proofs.Math.Nat.{mul-le-mul_left}
use Rattle.fx_sweep.proofs.repeating.weights_of.Goals as goal

pub multiple_of-requires : goal.multiple_of-requires
multiple_of-requires c = omega (arith, mul-le-mul_left c.args.times c.weight_of.ensures.least, c.requires)

pub returns-clause-least : goal.returns-clause-least
returns-clause-least c =
    omega (arith, mul-le-mul_left c.args.times c.weight_of.ensures.least, c.multiple_of.ensures)
