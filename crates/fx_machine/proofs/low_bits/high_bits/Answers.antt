use Rattle.std.proofs.Common.{◌≡◌, ◌^◌, ◌*ℤ◌, pos, ap, ◌∙◌, arith}
use Rattle.std.specs.Int.{w128, cast_unsigned as of_z, cast_signed as to_z}
use Rattle.std.proofs.lemmas.Int.{ints}
use Rattle.fx_math.specs.Division.{floor_div}
use Rattle.fx_machine.proofs.Bits.{high_small}
use Rattle.fx_machine.proofs.low_bits.high_bits.Goals as goal

pub shifted-requires-clause-fits : goal.shifted-requires-clause-fits
shifted-requires-clause-fits c =
    let z : to_z w128 (of_z w128 c.args.z) ≡ c.args.z = omega (arith, ints) in
    let own : to_z w128 (of_z w128 c.quotient.result) ≡ c.quotient.result = omega (arith, ints) in
    let q : to_z w128 (of_z w128 c.quotient.result) ≡ floor_div c.args.z (2 ^ c.args.bits) =
    own ∙ c.quotient.ensures ∙ ap (λ x. floor_div x (2 ^ c.args.bits)) z in
    rw q (high_small c.args.bits c.args.z c.requires.high c.requires.fits)

pub returns : goal.returns
returns c =
    let z : to_z w128 (of_z w128 c.args.z) ≡ c.args.z = omega (arith, ints) in
    let first : to_z w128 (of_z w128 c.quotient.result) ≡ c.quotient.result = omega (arith, ints) in
    let q : to_z w128 (of_z w128 c.quotient.result) ≡ floor_div c.args.z (2 ^ c.args.bits) =
    first ∙ c.quotient.ensures ∙ ap (λ x. floor_div x (2 ^ c.args.bits)) z in
    let own : to_z w128 (of_z w128 c.shifted.result) ≡ c.shifted.result = omega (arith, ints) in
    let value : to_z w128 (of_z w128 c.shifted.result)
    ≡ floor_div c.args.z (2 ^ c.args.bits) *ℤ pos (2 ^ c.args.bits) =
    own ∙ c.shifted.ensures ∙ ap (λ x. x *ℤ pos (2 ^ c.args.bits)) q in
    record { value = value; bound = rw value (high_small c.args.bits c.args.z c.requires.high c.requires.fits) }
