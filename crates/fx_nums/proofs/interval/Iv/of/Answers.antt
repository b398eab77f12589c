use Rattle.std.proofs.Common.{◌≡◌, ◌≤ℤ◌, arith, rules}
use Rattle.std.specs.Int.{w128}
use Rattle.std.specs.Prelude.{FitsSigned}
use Rattle.std.proofs.lemmas.Int.{to_z-of_z}
use Rattle.fx_math.specs.Division.{floor_div, ceil_div}
use Rattle.fx_math.proofs.Division.{floor_le-ceil}
use Rattle.fx_nums.proofs.interval.Iv.of.Goals as goal

pub invariant_of-result : goal.invariant_of-result
invariant_of-result c =
    let lo_fits : FitsSigned w128 c.floor_of.result = search rules in
    let hi_fits : FitsSigned w128 c.ceil_of.result = search rules in
    let scaled_fits : FitsSigned w128 c.at_scale-scaled.result = search rules in
    let lo_is : c.floor_of.result ≡ floor_div c.at_scale-scaled.result c.value-den.result =
    simp to_z-of_z at c.floor_of.ensures.value in
    let hi_is : c.ceil_of.result ≡ ceil_div c.at_scale-scaled.result c.value-den.result =
    simp to_z-of_z at c.ceil_of.ensures.value in
    let ordered : c.floor_of.result ≤ℤ c.ceil_of.result =
    rw (lo_is, hi_is) (floor_le-ceil _ _ c.value-den.ensures.positive) in
    simp to_z-of_z (record { ordered = ordered; fits = record { lo_fits = omega arith; hi_fits = omega arith } })
