use Rattle.fx_mat.proofs.Steps.{row_more, others_left}
use Rattle.fx_mat.proofs.intervals.IvMat.row_into.Goals as goal

pub loop-d-preserved : goal.loop-d-preserved
loop-d-preserved g c = record {
  done = row_more _ c.args.i c.loop-d.d _ _ _ _ c.product_entry-entry.result c.loop-d.invariant.done
      c.product_entry-entry.ensures c.set.ensures;
  left = others_left c.args.i c.loop-d.d _ _ _ c.product_entry-entry.result c.loop-d.invariant.left c.set.ensures;
}
