use Rattle.std.proofs.Common.{◌≡◌, ◌∙◌, sym, ap, arith}
use Rattle.std.proofs.lemmas.Int.{ints}
use Rattle.std.specs.Int.{w64, cast_unsigned as of_z, cast_signed as to_z}
use Rattle.fx_math.specs.Residue.{wrap}
use Rattle.fx_machine.proofs.Bits.{inside_where, outside_where}
use Rattle.fx_machine.proofs.low_bits.read_62.Goals as goal

pub returns-then-value-z-clause-lost : goal.returns-then-value-z-clause-lost
returns-then-value-z-clause-lost c =
    let z : to_z w64 (of_z w64 c.args.z) ≡ c.args.z = omega (arith, ints) in
    let own : to_z w64 (of_z w64 c.wrapped_64-value.result) ≡ c.wrapped_64-value.result = omega (arith, ints) in
    let same : c.wrapped_64-value.result ≡ c.args.z = sym own ∙ ap (to_z w64) c.if-value-z.true ∙ z in
    sym (inside_where c.args.bits c.args.z c.requires.low (ap (wrap c.args.bits) (sym z)
    ∙ sym c.wrapped_64-value.ensures ∙ same))

pub returns-clause-lost : goal.returns-clause-lost
returns-clause-lost c =
    let z : to_z w64 (of_z w64 c.args.z) ≡ c.args.z = omega (arith, ints) in
    sym (outside_where c.args.bits c.args.z c.requires.low (λ e.
    c.if-value-z.false (ap (of_z w64) (c.wrapped_64-value.ensures ∙ ap (wrap c.args.bits) z ∙ e))))
