use Rattle.std.proofs.Common.{◌≡◌, ℕ, ◌≤◌, ◌^◌, ap, arith, lit<}
use Rattle.std.proofs.Math.Nat.{pow-le-pow_right}
use Rattle.std.proofs.lemmas.Int.{ints}
use Rattle.fx_code.specs.Code.{row_at}
use Rattle.fx_check.proofs.numbers.divisor.Goals as goal

pub returns : goal.returns
returns c =
    let small : 2 ^ c.shift.result ≤ 2 ^ 62 = pow-le-pow_right (lit< tt) c.shift.ensures.high in
    let same : 2 ^ c.shift.result ≡ 2 ^ (row_at c.args.p.now c.args.i).own.shift =
    ap (λ (k : ℕ). 2 ^ k) c.shift.ensures.value in
    omega (arith, ints, small, same)
