use Rattle.std.proofs.Common.{◌≡◌, arith, ◌∙◌, sym}
use Rattle.std.proofs.lemmas.Int.{ints}
use Rattle.std.proofs.Math.IntN.{pos}
use Rattle.fx_sweep.proofs.Along.{nothing_added}
use Rattle.fx_sweep.proofs.handing.add_row.Goals as goal

pub returns-then-lo-eq0-clause-value : goal.returns-then-lo-eq0-clause-value
returns-then-lo-eq0-clause-value c =
    let fits = c.lo.type_inv in
    let zero : c.lo.result ≡ pos 0 = omega (arith, ints, c.if-lo-eq0.true, fits) in
    nothing_added c.args.row.lo _ _ (sym c.lo.ensures.value ∙ zero)
