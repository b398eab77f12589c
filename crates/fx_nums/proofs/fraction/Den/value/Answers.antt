use Rattle.std.proofs.Common.{◌^◌, ◌≤◌, arith, lit<}
use Rattle.std.proofs.Math.Nat.{pow-le-pow_right, one-le-pow}
use Rattle.fx_nums.proofs.fraction.Den.value.Goals as goal

pub pow-requires : goal.pow-requires
pow-requires c =
    let small : c.from.result ≤ 28 = omega (arith, c.from.ensures, rw c.in-Ten.is at c.requires) in
    let bound : 10 ^ c.from.result ≤ 10 ^ 28 = pow-le-pow_right (lit< tt) small in
    omega (arith, bound)

pub returns-in-Ten-clause-positive : goal.returns-in-Ten-clause-positive
returns-in-Ten-clause-positive c = omega (arith, c.pow.ensures, one-le-pow c.from.result 10 (lit< tt))

pub returns-in-Ten-clause-bound : goal.returns-in-Ten-clause-bound
returns-in-Ten-clause-bound c =
    let small : c.from.result ≤ 28 = omega (arith, c.from.ensures, rw c.in-Ten.is at c.requires) in
    let bound : 10 ^ c.from.result ≤ 10 ^ 28 = pow-le-pow_right (lit< tt) small in
    omega (arith, bound, c.pow.ensures)
