use Rattle.std.proofs.Common.{◌≡◌, ◌-◌, ◌^◌, ◌≤◌, false, ◌∙◌, sym, arith, lit<}
use Rattle.std.proofs.Math.Nat.{pow-le-pow_right}
use Rattle.std.proofs.lemmas.Int.{ints}
use Rattle.std.specs.Int.{w64, w128, cast_unsigned as of_z, cast_signed as to_z}
use Rattle.fx_math.specs.Residue.{FitsBits}
use Rattle.fx_machine.specs.Prepared.{is_outside}
use Rattle.fx_machine.proofs.Bits.{wrap_inside, fits_from}
use Rattle.fx_machine.proofs.low_bits.read_128.Goals as goal

pub returns-clause-value : goal.returns-clause-value
returns-clause-value c =
    let z : to_z w128 (of_z w128 c.args.z) ≡ c.args.z = omega (arith, ints) in
    let e : is_outside c.args.bits c.args.z ≡ false =
    sym (rw z at c.is_outside_128.ensures) ∙ c.if-is_outside_128.false in
    let low : c.args.bits - 1 ≤ 63 = omega (arith, c.requires.high) in
    let small : 2 ^ (c.args.bits - 1) ≤ 2 ^ 63 = pow-le-pow_right (lit< tt) low in
    let f : FitsBits c.args.bits c.args.z = fits_from c.args.bits c.args.z e in
    let same : to_z w64 (of_z w64 (to_z w128 (of_z w128 c.args.z))) ≡ c.args.z =
    omega (arith, ints, small, f.low, f.high) in
    same ∙ sym (wrap_inside c.args.bits c.args.z c.requires.low e)
