use Rattle.std.proofs.Common.{◌≡◌, FitsSigned, to_z-of_z, pos, rules, w64}
use Rattle.fx_msb.proofs.Bits.{accumulator_test}
use Rattle.fx_msb.proofs.widths.accumulator_fits.Goals as goal

pub returns : goal.returns
returns c =
    let fits : FitsSigned w64 c.args.x = search rules in
    let same : c.args.x ≡ pos c.magnitude.result = rw (to_z-of_z fits) at c.magnitude.ensures.value in
    rw c.from.ensures (accumulator_test c.args.x c.magnitude.result c.args.shift c.args.w same
    c.magnitude.ensures.small c.requires.shifted c.requires.high)
