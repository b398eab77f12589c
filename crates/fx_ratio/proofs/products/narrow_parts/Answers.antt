use Rattle.std.proofs.Common.{◌*◌, arith}
use Rattle.fx_ratio.proofs.Guesses.{low_rest_is}
use Rattle.fx_ratio.proofs.products.narrow_parts.Goals as goal

pub returns-then-rest-den-clause-parts : goal.returns-then-rest-den-clause-parts
returns-then-rest-den-clause-parts c =
    let left = low_rest_is c.args.guess c.args.den (c.args.x * c.args.mag) c.low_rest-rest.result c.requires.narrow
    c.low_rest-rest.type_inv c.requires.low c.requires.high c.low_rest-rest.ensures in
    omega (arith, left, c.from.ensures, c.if-rest-den.true)

pub returns-then-rest-den-clause-rest : goal.returns-then-rest-den-clause-rest
returns-then-rest-den-clause-rest c =
    let left = low_rest_is c.args.guess c.args.den (c.args.x * c.args.mag) c.low_rest-rest.result c.requires.narrow
    c.low_rest-rest.type_inv c.requires.low c.requires.high c.low_rest-rest.ensures in
    omega (arith, left, c.from.ensures, c.if-rest-den.true, c.requires.high)

pub returns-else-rest-den-clause-parts : goal.returns-else-rest-den-clause-parts
returns-else-rest-den-clause-parts c =
    let left = low_rest_is c.args.guess c.args.den (c.args.x * c.args.mag) c.low_rest-rest.result c.requires.narrow
    c.low_rest-rest.type_inv c.requires.low c.requires.high c.low_rest-rest.ensures in
    omega (arith, left, c.from-else-rest-den.ensures)
