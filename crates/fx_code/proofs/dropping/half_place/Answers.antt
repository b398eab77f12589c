use Rattle.std.proofs.Common.{◌≤◌, ◌-◌, ◌^◌, arith, lit<}
use Rattle.std.proofs.Math.Nat.{pow-le-pow_right}
use Rattle.std.proofs.lemmas.Int.{ints}
use Rattle.fx_code.proofs.dropping.half_place.Goals as goal

pub returns-in_default-clause-high : goal.returns-in_default-clause-high
returns-in_default-clause-high c =
    let low : c.args.shift - 1 ≤ 61 = omega arith in
    let small : 2 ^ (c.args.shift - 1) ≤ 2 ^ 61 = pow-le-pow_right (lit< tt) low in
    omega (arith, ints, small, c.power_of_two.ensures)
