use Rattle.std.proofs.Common.{◌≡◌, ℕ, ◌≤◌, ◌<◌, ◌^◌, ℤ, ◌*ℤ◌, pos, unsigned_abs, ap, ◌∙◌, arith, lit<}
use Rattle.std.specs.Int.{w64, cast_unsigned as of_z, cast_signed as to_z}
use Rattle.std.proofs.lemmas.Int.{ints}
use Rattle.fx_math.specs.Division.{floor_div}
use Rattle.std.proofs.Math.Nat.{pow-le-pow_right}
use Rattle.std.proofs.lemmas.Nat.{pow_pos}
use Rattle.fx_machine.proofs.Bits.{high_near}
use Rattle.fx_machine.proofs.low_bits.high_bits_64.Goals as goal

small : (bits : ℕ) (z : ℤ) → bits ≤ 61 → unsigned_abs z ≤ 2 ^ 62 →
    unsigned_abs (floor_div z (2 ^ bits) *ℤ pos (2 ^ bits)) < 2 ^ 63
small bits z h k =
    let power : 2 ^ bits ≤ 2 ^ 61 = pow-le-pow_right (lit< tt) h in
    omega (arith, power, k, high_near (2 ^ bits) z (pow_pos bits))

pub shifted_64-requires-clause-fits : goal.shifted_64-requires-clause-fits
shifted_64-requires-clause-fits c =
    let z : to_z w64 (of_z w64 c.args.z) ≡ c.args.z = omega (arith, ints) in
    let own : to_z w64 (of_z w64 c.floored.result) ≡ c.floored.result = omega (arith, ints) in
    let q : to_z w64 (of_z w64 c.floored.result) ≡ floor_div c.args.z (2 ^ c.args.bits) =
    own ∙ c.floored.ensures ∙ ap (λ x. floor_div x (2 ^ c.args.bits)) z in
    rw q (small c.args.bits c.args.z c.requires.high c.requires.fits)

pub returns : goal.returns
returns c =
    let z : to_z w64 (of_z w64 c.args.z) ≡ c.args.z = omega (arith, ints) in
    let first : to_z w64 (of_z w64 c.floored.result) ≡ c.floored.result = omega (arith, ints) in
    let q : to_z w64 (of_z w64 c.floored.result) ≡ floor_div c.args.z (2 ^ c.args.bits) =
    first ∙ c.floored.ensures ∙ ap (λ x. floor_div x (2 ^ c.args.bits)) z in
    let own : to_z w64 (of_z w64 c.shifted_64.result) ≡ c.shifted_64.result = omega (arith, ints) in
    let value : to_z w64 (of_z w64 c.shifted_64.result)
    ≡ floor_div c.args.z (2 ^ c.args.bits) *ℤ pos (2 ^ c.args.bits) =
    own ∙ c.shifted_64.ensures ∙ ap (λ x. x *ℤ pos (2 ^ c.args.bits)) q in
    record { value = value; bound = rw value (small c.args.bits c.args.z c.requires.high c.requires.fits) }
