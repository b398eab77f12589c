use Rattle.std.proofs.Common.{◌+◌, ◌-◌}
use Rattle.fx_text.specs.Writing.{keep_lines}
use Rattle.fx_text.proofs.Lines.{keeps_more, pushed}
use Rattle.fx_text.proofs.writer.put_keeps.Goals as goal

pub loop-row-preserved : goal.loop-row-preserved
loop-row-preserved c =
    let line = rw c.in_ok-line.ensures at c.in_ok-put.ensures in
    pushed _ _ (keep_lines (c.loop-row.row + 1) (c.args.rows - (c.loop-row.row + 1))) _ _ _ line
    (keeps_more c.args.rows c.loop-row.row c.loop-row-test.true) c.loop-row.invariant
