use Rattle.std.proofs.Common.{arith, ◌*◌}
use Rattle.fx_ratio.proofs.Guesses.{quotient_is, rest_is}
use Rattle.fx_ratio.proofs.products.magnitude.Goals as goal

pub returns-then-rest-eq0-clause-ceil : goal.returns-then-rest-eq0-clause-ceil
returns-then-rest-eq0-clause-ceil c =
    omega (
      arith,
      c.if-rest-eq0.true,
      quotient_is c.parts-floor.result.0 c.args.den c.parts-floor.result.1 (c.args.x * c.args.mag)
          c.parts-floor.ensures.parts c.parts-floor.ensures.rest,
      rest_is c.parts-floor.result.0 c.args.den c.parts-floor.result.1 (c.args.x * c.args.mag)
          c.parts-floor.ensures.parts c.parts-floor.ensures.rest,
    )

pub returns-else-rest-eq0-clause-ceil : goal.returns-else-rest-eq0-clause-ceil
returns-else-rest-eq0-clause-ceil c =
    omega (
      arith,
      c.if-rest-eq0.false,
      quotient_is c.parts-floor.result.0 c.args.den c.parts-floor.result.1 (c.args.x * c.args.mag)
          c.parts-floor.ensures.parts c.parts-floor.ensures.rest,
      rest_is c.parts-floor.result.0 c.args.den c.parts-floor.result.1 (c.args.x * c.args.mag)
          c.parts-floor.ensures.parts c.parts-floor.ensures.rest,
    )
