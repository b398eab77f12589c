use Rattle.std.proofs.Common.{◌≡◌, ℕ, ◌≤◌, ◌-◌, ◌^◌, ◌+ℤ◌, ◌-ℤ◌, ◌*ℤ◌, pos, ap, ◌∙◌, arith, lit<}
use Rattle.std.proofs.Math.Nat.{pow-le-pow_right}
use Rattle.std.specs.Int.{w64, cast_unsigned as of_z, cast_signed as to_z}
use Rattle.std.proofs.lemmas.Int.{ints, fits_signed_from_abs}
use Rattle.fx_math.specs.Division.{floor_div}
use Rattle.fx_math.specs.Residue.{wrap, FitsBits}
use Rattle.fx_math.proofs.Residue.{residue_range}
use Rattle.fx_machine.proofs.Bits.{wrap_is}
use Rattle.fx_machine.proofs.low_bits.wrapped_64.Goals as goal

half_low : (bits : ℕ) → bits ≤ 61 → 2 ^ (bits - 1) ≤ 2 ^ 60
half_low bits h = let e : bits - 1 ≤ 60 = omega (arith, h) in pow-le-pow_right (lit< tt) e

pub overflow_add-z : goal.overflow_add-z
overflow_add-z c =
    let small = half_low c.args.bits c.requires.high in
    let half : c.power_of_two.result ≡ pos (2 ^ (c.args.bits - 1)) = c.power_of_two.ensures in
    let z : to_z w64 (of_z w64 c.args.z) ≡ c.args.z = omega (arith, ints) in
    fits_signed_from_abs w64 _ (omega (arith, ints, small, half, z, c.requires.fits))

pub high_bits_64-requires-clause-fits : goal.high_bits_64-requires-clause-fits
high_bits_64-requires-clause-fits c =
    let small = half_low c.args.bits c.requires.high in
    let half : c.power_of_two.result ≡ pos (2 ^ (c.args.bits - 1)) = c.power_of_two.ensures in
    omega (arith, ints, small, half, c.requires.fits)

pub returns : goal.returns
returns c =
    let bits = c.args.bits in
    let z = c.args.z in
    let half = c.power_of_two.result in
    let high = c.high_bits_64.result in
    let small = half_low bits c.requires.high in
    let own : to_z w64 (of_z w64 z) ≡ z = omega (arith, ints) in
    let value_of_half : half ≡ pos (2 ^ (bits - 1)) = c.power_of_two.ensures in
    let sum : to_z w64 (of_z w64 (to_z w64 (of_z w64 z) +ℤ to_z w64 (of_z w64 half))) ≡ z +ℤ half =
    omega (arith, ints, value_of_half, small, c.requires.fits) in
    let value : high ≡ floor_div (z +ℤ half) (2 ^ bits) *ℤ pos (2 ^ bits) =
    c.high_bits_64.ensures.value ∙ ap (λ x. floor_div x (2 ^ bits) *ℤ pos (2 ^ bits)) sum in
    let same : z -ℤ high ≡ wrap bits z = wrap_is bits z half high c.requires.low value_of_half value in
    let fits : FitsBits bits (wrap bits z) = residue_range bits z c.requires.low in
    omega (arith, ints, same, small, fits.low, fits.high)
