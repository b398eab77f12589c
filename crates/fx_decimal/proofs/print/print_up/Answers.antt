use Rattle.std.proofs.Common.{◌∙◌, ◌≡◌, pos, ◌<ℤ◌, ◌≤ℤ◌, arith, to_z, of_z, unsigned_abs}
use mir.Syntax.{w128}
use Rattle.std.proofs.lemmas.Int.{fits_signed_from_abs, ints, to_z-of_z}
use Rattle.fx_decimal.proofs.Units.{up_above, up_below}
use Rattle.fx_decimal.proofs.print.print_up.Goals as goal

pub returns-then-v-lt0 : goal.returns-then-v-lt0
returns-then-v-lt0 c =
    let back : to_z w128 (of_z w128 c.args.v) ≡ c.args.v =
    to_z-of_z w128 c.args.v (fits_signed_from_abs w128 c.args.v (omega (arith, c.requires.range))) in
    let size : c.unsigned_abs.result ≡ unsigned_abs c.args.v = rw back at c.unsigned_abs.ensures.value in
    let below : c.args.v <ℤ pos 0 = omega (arith, ints) in
    c.rounded.ensures ∙ rw size (up_below c.args.v c.args.places below)

pub returns-else-v-lt0 : goal.returns-else-v-lt0
returns-else-v-lt0 c =
    let back : to_z w128 (of_z w128 c.args.v) ≡ c.args.v =
    to_z-of_z w128 c.args.v (fits_signed_from_abs w128 c.args.v (omega (arith, c.requires.range))) in
    let size : c.unsigned_abs-else-v-lt0.result ≡ unsigned_abs c.args.v =
    rw back at c.unsigned_abs-else-v-lt0.ensures.value in
    let above : pos 0 ≤ℤ c.args.v = omega (arith, ints) in
    c.rounded-else-v-lt0.ensures ∙ rw size (up_above c.args.v c.args.places above)
