use Rattle.std.proofs.Common.{arith, to_z-of_z}
use Rattle.fx_nums.proofs.EndLaws.{scaled_from}
use Rattle.fx_nums.proofs.ends.scaled_ends.Goals as goal

pub returns : goal.returns
returns c =
    scaled_from c.args.lo c.args.hi _ _ c.mul_ends-low.result.0 c.mul_ends-low.result.1 c.mul_ends-other_low.result.0
    c.mul_ends-other_low.result.1 _ _ (grind (arith, to_z-of_z)) (grind (arith, to_z-of_z))
    (grind (arith, to_z-of_z)) (grind (arith, to_z-of_z))
