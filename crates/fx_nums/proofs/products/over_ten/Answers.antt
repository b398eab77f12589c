use Rattle.std.proofs.Common.{arith, ◌^◌, unsigned_abs}
use Rattle.std.proofs.lemmas.Int.{ints}
use Rattle.fx_math.proofs.Rounding.{floor_of_negative, ceil_of_positive}
use Rattle.fx_nums.proofs.Reciprocals.{ten_bounds}
use Rattle.fx_nums.proofs.products.over_ten.Goals as goal

pub returns-then-n-lt0-clause-floor : goal.returns-then-n-lt0-clause-floor
returns-then-n-lt0-clause-floor c =
    omega (
      arith,
      ints,
      floor_of_negative c.args.n c.unsigned_abs.result c.magnitude_over_ten-floor.result.1
          (10 ^ c.args.d) (ten_bounds c.args.d c.requires.d_in).1 (omega (arith, ints)) (omega (arith, ints))
          c.magnitude_over_ten-floor.ensures.ceil,
    )

pub returns-else-n-lt0-clause-ceil : goal.returns-else-n-lt0-clause-ceil
returns-else-n-lt0-clause-ceil c =
    omega (
      arith,
      ints,
      ceil_of_positive c.args.n c.unsigned_abs.result c.magnitude_over_ten-floor.result.1
          (10 ^ c.args.d) (ten_bounds c.args.d c.requires.d_in).1 (omega (arith, ints)) (omega (arith, ints))
          c.magnitude_over_ten-floor.ensures.ceil,
    )
