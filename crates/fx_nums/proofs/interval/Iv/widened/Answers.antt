use Rattle.std.proofs.Common.{◌≤ℤ◌, arith, rules, to_z-of_z}
use Rattle.std.specs.Int.{w128}
use Rattle.std.specs.Prelude.{FitsSigned}
use Rattle.fx_nums.proofs.EndLaws.{widened_ordered}
use Rattle.fx_nums.proofs.interval.Iv.widened.Goals as goal

pub invariant_of-result : goal.invariant_of-result
invariant_of-result c =
    let lo_fits : FitsSigned w128 c.widened_low-lo.result = search rules in
    let hi_fits : FitsSigned w128 c.widened_high-hi.result = search rules in
    let from_fits : FitsSigned w128 c.self.inside.lo = search rules in
    let to_fits : FitsSigned w128 c.self.inside.hi = search rules in
    let lo_is = simp to_z-of_z at c.widened_low-lo.ensures.value in
    let hi_is = simp to_z-of_z at c.widened_high-hi.ensures.value in
    let ordered : c.widened_low-lo.result ≤ℤ c.widened_high-hi.result =
    rw (lo_is, hi_is) (widened_ordered c.self.inside.lo c.self.inside.hi c.self.invariant.ordered) in
    simp to_z-of_z (record {
      ordered = ordered;
      fits =
          record {
            lo_fits = omega (arith, c.widened_low-lo.ensures.bound);
            hi_fits =
                omega (arith, c.widened_high-hi.ensures.bound);
          };
    })

pub returns-clause-ordered : goal.returns-clause-ordered
returns-clause-ordered c =
    rw (← c.self.view_is) (widened_ordered c.self.inside.lo c.self.inside.hi c.self.invariant.ordered)
