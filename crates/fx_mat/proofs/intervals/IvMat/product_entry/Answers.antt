use Rattle.std.proofs.Common.{◌≡◌, arith, ◌^◌, ◌*◌}
use Rattle.fx_nums.specs.Arithmetic.{IsWithin}
use Rattle.fx_mat.proofs.Sums.{operand_within, partial_start, partial_more, partial_done}
use Rattle.fx_mat.proofs.intervals.IvMat.product_entry.Goals as goal

pub loop-k-init : goal.loop-k-init
loop-k-init g c = partial_start _ _ c.point-sum.result c.point-sum.ensures

pub add-sum-requires-clause-right : goal.add-sum-requires-clause-right
add-sum-requires-clause-right g c =
    let small : IsWithin (2 ^ 56 * 2 ^ 56) c.scale.result =
    c.scale.ensures.scales (2 ^ 56)
    (operand_within c.get.result
    (rw (← c.get.ensures) at (c.requires.small c.args.i c.loop-k.k c.requires.row c.loop-k-test.true))) in
    record { lo_fits = omega (arith, small.low); hi_fits = omega (arith, small.high) }

pub loop-k-preserved : goal.loop-k-preserved
loop-k-preserved g c =
    let small : IsWithin (2 ^ 56 * 2 ^ 56) c.scale.result =
    c.scale.ensures.scales (2 ^ 56)
    (operand_within c.get.result
    (rw (← c.get.ensures) at (c.requires.small c.args.i c.loop-k.k c.requires.row c.loop-k-test.true))) in
    partial_more _ _ _ c.loop-k.sum c.scale.result c.add-sum.result c.loop-k.invariant
    (rw (c.get.ensures, c.get-in-loop-k.ensures) at c.scale.ensures.ends) small
    (rw (c.get.ensures, c.get-in-loop-k.ensures) at c.scale.ensures.encloses) c.add-sum.ensures

pub returns : goal.returns
returns g c =
    let all : c.loop-k.k ≡ g.row.C = omega (arith, c.loop-k-test.false, c.loop-k.auto.k-end) in
    partial_done c.loop-k.k g.row.C _ _ c.loop-k.sum all c.loop-k.invariant
