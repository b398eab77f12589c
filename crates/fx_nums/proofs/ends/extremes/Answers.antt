use Rattle.std.proofs.Common.{to_z-of_z, FitsSigned, rules, refl}
use Rattle.std.specs.Int.{w128}
use Rattle.fx_nums.proofs.ends.extremes.Goals as goal

pub returns-clause-least : goal.returns-clause-least
returns-clause-least c =
    let a_fits = c.ranges.a in
    let b_fits = c.ranges.b in
    let c_fits = c.ranges.c in
    let d_fits = c.ranges.d in
    let one_fits : FitsSigned w128 c.min.result = search rules in
    let two_fits : FitsSigned w128 c.min-2.result = search rules in
    let three_fits : FitsSigned w128 c.min-3.result = search rules in
    let one = simp to_z-of_z at c.min.ensures.value in
    let two = simp to_z-of_z at c.min-2.ensures.value in
    let three = simp to_z-of_z at c.min-3.ensures.value in
    simp to_z-of_z (rw (three, one, two) refl)

pub returns-clause-greatest : goal.returns-clause-greatest
returns-clause-greatest c =
    let a_fits = c.ranges.a in
    let b_fits = c.ranges.b in
    let c_fits = c.ranges.c in
    let d_fits = c.ranges.d in
    let one_fits : FitsSigned w128 c.max.result = search rules in
    let two_fits : FitsSigned w128 c.max-2.result = search rules in
    let three_fits : FitsSigned w128 c.max-3.result = search rules in
    let one = simp to_z-of_z at c.max.ensures.value in
    let two = simp to_z-of_z at c.max-2.ensures.value in
    let three = simp to_z-of_z at c.max-3.ensures.value in
    simp to_z-of_z (rw (three, one, two) refl)
