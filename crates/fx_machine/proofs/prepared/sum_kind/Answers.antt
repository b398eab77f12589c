use Rattle.std.proofs.Common.{ℕ, ◌-◌, ◌^◌, ◌≤◌, arith, lit<}
use Rattle.std.proofs.Math.Nat.{pow-le-pow_right}
use Rattle.std.proofs.lemmas.Bool.Decides.{nat_tests}
use Rattle.fx_machine.specs.Prepared.{sum_kind}
use Rattle.fx_machine.proofs.prepared.sum_kind.Goals as goal

small : (bits : ℕ) → bits ≤ 64 → 2 ^ (bits - 1) ≤ 2 ^ 63
small bits h = let e : bits - 1 ≤ 63 = omega arith in pow-le-pow_right (lit< tt) e

pub returns-then-sum-bits : goal.returns-then-sum-bits
unfolding sum_kind
returns-then-sum-bits c =
    let s = small c.args.bits c.requires.high in
    grind (arith, nat_tests, s, c.if-sum-bits.true)

pub returns-then-sum : goal.returns-then-sum
unfolding sum_kind
returns-then-sum c =
    let s = small c.args.bits c.requires.high in
    grind (arith, nat_tests, s, c.if-sum-bits.false, c.if-sum.true)

pub returns-else-sum : goal.returns-else-sum
unfolding sum_kind
returns-else-sum c =
    let s = small c.args.bits c.requires.high in
    grind (arith, nat_tests, s, c.if-sum-bits.false, c.if-sum.false)
