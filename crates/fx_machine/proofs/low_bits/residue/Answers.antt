use Rattle.std.proofs.Common.{◌≡◌, ◌≤◌, ◌-◌, ◌^◌, ◌+ℤ◌, ◌-ℤ◌, ◌*ℤ◌, pos, ap, ◌∙◌, arith, lit<}
use Rattle.std.proofs.Math.Nat.{pow-le-pow_right}
use Rattle.std.specs.Int.{w128, cast_unsigned as of_z, cast_signed as to_z}
use Rattle.std.proofs.lemmas.Int.{ints}
use Rattle.fx_math.specs.Division.{floor_div}
use Rattle.fx_math.specs.Residue.{wrap, FitsBits}
use Rattle.fx_math.proofs.Residue.{residue_range}
use Rattle.fx_machine.proofs.Bits.{wrap_is}
use Rattle.fx_machine.proofs.low_bits.residue.Goals as goal

pub returns : goal.returns
returns c =
    let bits = c.args.bits in
    let z = c.args.z in
    let half = c.half_128.result in
    let high = c.high_bits.result in
    let e : bits - 1 ≤ 63 = omega (arith, c.requires.high) in
    let small : 2 ^ (bits - 1) ≤ 2 ^ 63 = pow-le-pow_right (lit< tt) e in
    let own : to_z w128 (of_z w128 z) ≡ z = omega (arith, ints) in
    let sum : to_z w128 (of_z w128 (to_z w128 (of_z w128 z) +ℤ to_z w128 (of_z w128 half))) ≡ z +ℤ half =
    omega (arith, ints, c.half_128.ensures.bound, c.requires.fits) in
    let value : high ≡ floor_div (z +ℤ half) (2 ^ bits) *ℤ pos (2 ^ bits) =
    c.high_bits.ensures.value ∙ ap (λ x. floor_div x (2 ^ bits) *ℤ pos (2 ^ bits)) sum in
    let same : z -ℤ high ≡ wrap bits z = wrap_is bits z half high c.requires.low c.half_128.ensures.value value in
    let fits : FitsBits bits (wrap bits z) = residue_range bits z c.requires.low in
    let all : to_z w128 (of_z w128 (to_z w128 (of_z w128 z) -ℤ to_z w128 (of_z w128 high))) ≡ wrap bits z =
    omega (arith, ints, same, small, fits.low, fits.high) in
    record {
      value = all;
      below = rw all (omega (arith, ints, small, fits.low));
      above = rw all (omega (arith, ints, small, fits.high));
    }
