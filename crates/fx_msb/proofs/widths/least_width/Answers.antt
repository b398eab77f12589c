use Rattle.std.proofs.Common.{◌≡◌, FitsSigned, to_z-of_z, pos, rules, w64}
use Rattle.fx_msb.proofs.Bits.{least_width_is, least_width_fits}
use Rattle.fx_msb.proofs.widths.least_width.Goals as goal

pub returns-clause-least : goal.returns-clause-least
returns-clause-least c =
    let fits : FitsSigned w64 c.args.x = search rules in
    let same : c.args.x ≡ pos c.magnitude.result = rw (to_z-of_z fits) at c.magnitude.ensures.value in
    rw c.max.ensures (least_width_is c.args.x c.magnitude.result same c.magnitude.ensures.small)

pub returns-clause-fits : goal.returns-clause-fits
returns-clause-fits c =
    let fits : FitsSigned w64 c.args.x = search rules in
    let same : c.args.x ≡ pos c.magnitude.result = rw (to_z-of_z fits) at c.magnitude.ensures.value in
    rw c.max.ensures (least_width_fits c.args.x c.magnitude.result _ same c.magnitude.ensures.small
    (least_width_is c.args.x c.magnitude.result same c.magnitude.ensures.small))
