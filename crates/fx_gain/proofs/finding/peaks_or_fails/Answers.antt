use Rattle.std.proofs.Common.{arith}
use Rattle.fx_gain.proofs.Holding.{count_inside}
use Rattle.fx_gain.proofs.finding.peaks_or_fails.Goals as goal

pub first_serving-requires : goal.first_serving-requires
first_serving-requires g c =
    let system = rw c.eqs.ensures.value at c.systems_fit.ensures in
    let few = count_inside c.args.f.now system in
    (omega arith, (omega arith, (omega arith, (omega arith, omega (arith, few, c.requires)))))
