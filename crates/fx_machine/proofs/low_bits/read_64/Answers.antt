use Rattle.std.proofs.Common.{◌≡◌, false, ◌∙◌, sym, arith}
use Rattle.std.proofs.lemmas.Int.{ints}
use Rattle.std.specs.Int.{w64, cast_unsigned as of_z, cast_signed as to_z}
use Rattle.fx_machine.specs.Prepared.{is_outside}
use Rattle.fx_machine.proofs.Bits.{wrap_inside, half_small}
use Rattle.fx_machine.proofs.low_bits.read_64.Goals as goal

pub is_beyond-requires : goal.is_beyond-requires
is_beyond-requires c = rw c.requires.half (half_small c.args.bits 62 (omega (arith, c.requires.high)))

pub returns-clause-value : goal.returns-clause-value
returns-clause-value c =
    let z : to_z w64 (of_z w64 c.args.z) ≡ c.args.z = omega (arith, ints) in
    let e : is_outside c.args.bits c.args.z ≡ false =
    sym (rw (z, c.requires.half) at c.is_beyond.ensures) ∙ c.if-is_beyond.false in
    z ∙ sym (wrap_inside c.args.bits c.args.z c.requires.low e)
