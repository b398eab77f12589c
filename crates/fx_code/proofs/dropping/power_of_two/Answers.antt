use Rattle.std.proofs.Common.{◌≤◌, ◌^◌, arith, lit<}
use Rattle.std.proofs.Math.Nat.{pow-le-pow_right}
use Rattle.std.proofs.lemmas.Int.{ints}
use Rattle.fx_code.proofs.dropping.power_of_two.Goals as goal

pub returns : goal.returns
returns c =
    let small : 2 ^ c.args.k ≤ 2 ^ 62 = pow-le-pow_right (lit< tt) c.requires in
    omega (arith, ints)
