use Rattle.std.proofs.Common.{arith, to_z-of_z, ◌^◌}
use Rattle.fx_mat.proofs.Steps.{multiples_more}
use Rattle.fx_mat.proofs.intervals.IvMat.add_multiple.Goals as goal

pub add-sum-requires-clause-right : goal.add-sum-requires-clause-right
add-sum-requires-clause-right g c =
    let p_fits = c.ranges.p in
    let rounded = simp to_z-of_z at c.multiple.ensures.rounded in
    record {
      lo_fits = omega (arith, rounded.low_scales (2 ^ 56) (omega (arith, c.requires.factor)));
      hi_fits = omega (arith, rounded.high_scales (2 ^ 56) (omega (arith, c.requires.factor)));
    }

pub loop-j-preserved : goal.loop-j-preserved
loop-j-preserved g c =
    let p_fits = c.ranges.p in
    let added = simp to_z-of_z at c.multiple.ensures.ends in
    simp to_z-of_z (multiples_more c.args.i c.loop-j.j c.args.p _ _ _ _ c.get.result c.add-sum.result
    (simp to_z-of_z at c.loop-j.invariant) c.get.ensures
    (rw (added, c.get-in-loop-j.ensures) at c.add-sum.ensures) c.set.ensures)
