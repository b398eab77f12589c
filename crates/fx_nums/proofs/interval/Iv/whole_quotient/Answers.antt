use Rattle.std.proofs.Common.{to_z-of_z, rules, refl}
use Rattle.std.specs.Int.{w128}
use Rattle.std.specs.Prelude.{FitsSigned}
use Rattle.fx_nums.proofs.interval.Iv.whole_quotient.Goals as goal

pub returns : goal.returns
returns c =
    let low_fits : FitsSigned w128 c.quotient_ends-lo.result.0 = search rules in
    let high_fits : FitsSigned w128 c.quotient_ends-lo.result.1 = search rules in
    let lo_fits : FitsSigned w128 c.self.inside.lo = search rules in
    let hi_fits : FitsSigned w128 c.self.inside.hi = search rules in
    let o_lo_fits : FitsSigned w128 c.o.inside.lo = search rules in
    let o_hi_fits : FitsSigned w128 c.o.inside.hi = search rules in
    let low = simp to_z-of_z at c.quotient_ends-lo.ensures.low_is in
    let high = simp to_z-of_z at c.quotient_ends-lo.ensures.high_is in
    rw (← c.self.view_is, ← c.o.view_is) (simp to_z-of_z (rw (low, high) refl))
