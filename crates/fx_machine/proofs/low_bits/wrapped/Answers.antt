use Rattle.std.proofs.Common.{◌≡◌, ◌∙◌, arith, ap}
use Rattle.std.proofs.lemmas.Int.{ints}
use Rattle.std.specs.Int.{w128, cast_unsigned as of_z, cast_signed as to_z}
use Rattle.fx_math.specs.Residue.{wrap}
use Rattle.fx_machine.proofs.low_bits.wrapped.Goals as goal

pub returns : goal.returns
returns c =
    let z : to_z w128 (of_z w128 c.args.z) ≡ c.args.z = omega (arith, ints) in
    let v : c.residue.result ≡ wrap c.args.bits c.args.z = c.residue.ensures.value ∙ ap (wrap c.args.bits) z in
    rw (← v) (omega (arith, ints))
