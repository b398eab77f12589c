use Rattle.std.proofs.Common.{◌≡◌, ◌≤◌, ◌*◌, ◌^◌, false, refl, arith}
use Rattle.std.proofs.lemmas.Bool.Decides.{nat_tests}
use Rattle.std.specs.Prelude.{nat_lt}
use Rattle.fx_decimal.proofs.Digits.{raised_far}
use Rattle.fx_decimal.proofs.value.raised.Goals as goal

pub returns-then-power-gt-GREATEST_POWER : goal.returns-then-power-gt-GREATEST_POWER
returns-then-power-gt-GREATEST_POWER c =
    let far : 2 ^ 24 ≤ c.args.number * 10 ^ c.args.power =
    raised_far c.args.number c.args.power c.requires.some c.if-power-gt-GREATEST_POWER.true in
    let test : nat_lt (c.args.number * 10 ^ c.args.power) (2 ^ 24 * 10 ^ 0) ≡ false = grind (arith, nat_tests) in
    rw test refl
