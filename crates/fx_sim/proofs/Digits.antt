-- Bounds of numbers of so many digits.
use Rattle.std.proofs.Common.{◌≡◌, ◌+◌, ◌-◌, ℕ, ◌^◌, ◌<◌, ◌≤◌, ◌*◌, arith, add-one, lit<}
use Rattle.std.proofs.Math.Nat.{pow-le-pow_right, pow-succ'}
use Rattle.fx_sim.specs.declared.field.TheConstants.{FIELD_DIGITS}

-- one digit fewer than a field may have
pub one_digit_left : (n v : ℕ) → v < 10 ^ n → n < FIELD_DIGITS → v < 10 ^ (FIELD_DIGITS - 1)
one_digit_left n v below few =
    let less : n ≤ FIELD_DIGITS - 1 = omega arith in
    let most : 10 ^ n ≤ 10 ^ (FIELD_DIGITS - 1) = pow-le-pow_right (lit< tt) less in
    omega arith

-- one digit more
pub grows : (n v d : ℕ) → v < 10 ^ n → d ≤ 9 → 10 * v + d < 10 ^ (n + 1)
grows n v d below digit =
    let next : 10 ^ (n + 1) ≡ 10 * 10 ^ n = rw add-one (pow-succ' 10 n) in
    omega arith

-- no more digits than a field may have
pub few_digits : (n v : ℕ) → v < 10 ^ n → n ≤ FIELD_DIGITS → v < 10 ^ FIELD_DIGITS
few_digits n v below few =
    let most : 10 ^ n ≤ 10 ^ FIELD_DIGITS = pow-le-pow_right (lit< tt) few in
    omega arith
