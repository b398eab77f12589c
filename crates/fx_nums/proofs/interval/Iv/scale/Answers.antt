use Rattle.std.proofs.Common.{to_z-of_z, rules}
use Rattle.std.specs.Int.{w128}
use Rattle.std.specs.Prelude.{FitsSigned}
use Rattle.fx_nums.specs.Fraction.{den_value}
use Rattle.fx_nums.proofs.EndLaws.{scaled_encloses}
use Rattle.fx_nums.proofs.interval.Iv.scale.Goals as goal

pub returns-clause-scales : goal.returns-clause-scales
returns-clause-scales c =
    let low_fits : FitsSigned w128 c.scaled_ends-lo.result.0 = search rules in
    let high_fits : FitsSigned w128 c.scaled_ends-lo.result.1 = search rules in
    let lo_fits : FitsSigned w128 c.self.inside.lo = search rules in
    let hi_fits : FitsSigned w128 c.self.inside.hi = search rules in
    let known = simp to_z-of_z at c.scaled_ends-lo.ensures.scales in
    rw (← c.self.view_is) (simp to_z-of_z (λ b w. let both =
    known b w.low w.high in record { low = both.0; high = both.1 }))

pub returns-clause-encloses : goal.returns-clause-encloses
returns-clause-encloses c =
    let low_fits : FitsSigned w128 c.scaled_ends-lo.result.0 = search rules in
    let high_fits : FitsSigned w128 c.scaled_ends-lo.result.1 = search rules in
    let lo_fits : FitsSigned w128 c.self.inside.lo = search rules in
    let hi_fits : FitsSigned w128 c.self.inside.hi = search rules in
    let known = simp to_z-of_z at c.scaled_ends-lo.ensures in
    rw (← c.self.view_is) (simp to_z-of_z (λ x e.
    scaled_encloses (record { lo = c.self.inside.lo; hi = c.self.inside.hi })
    (record { lo = c.scaled_ends-lo.result.0; hi = c.scaled_ends-lo.result.1 }) c.args.c.num
    (den_value c.args.c.den) x known e))
