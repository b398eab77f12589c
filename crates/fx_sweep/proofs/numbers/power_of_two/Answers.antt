use Rattle.std.proofs.Common.{◌≤◌, ◌^◌, arith, lit<}
use Rattle.std.proofs.Math.Nat.{pow-le-pow_right}
use Rattle.std.proofs.lemmas.Int.{ints}
use Rattle.fx_sweep.proofs.numbers.power_of_two.Goals as goal

pub returns-clause-value : goal.returns-clause-value
returns-clause-value c =
    let small : 2 ^ c.args.exponent ≤ 2 ^ 80 = pow-le-pow_right (lit< tt) c.requires in
    omega (arith, ints)

pub returns-clause-high : goal.returns-clause-high
returns-clause-high c =
    let small : 2 ^ c.args.exponent ≤ 2 ^ 80 = pow-le-pow_right (lit< tt) c.requires in
    omega (arith, ints)
