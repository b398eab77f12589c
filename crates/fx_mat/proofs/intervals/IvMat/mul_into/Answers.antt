use Rattle.fx_mat.proofs.Steps.{rows_more}
use Rattle.fx_mat.proofs.intervals.IvMat.mul_into.Goals as goal

pub loop-i-preserved : goal.loop-i-preserved
loop-i-preserved g c = rows_more c.loop-i.i _ _ _ _ _ _ c.loop-i.invariant c.row_into.ensures.done
    c.row_into.ensures.left
