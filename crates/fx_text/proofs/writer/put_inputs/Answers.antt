use Rattle.std.proofs.Common.{◌<◌, ◌+◌, drop, length, arith}
use Rattle.fx_text.specs.Writing.{input_lines}
use Rattle.fx_text.proofs.Lines.{inputs_more, pushed}
use Rattle.fx_text.proofs.writer.put_inputs.Goals as goal

pub loop-j-preserved : goal.loop-j-preserved
loop-j-preserved c =
    let ws = c.args.program.now.inputs in
    let below : c.loop-j.j < length ws = omega arith in
    let line = rw (c.in_ok-line.ensures, c.input_width.ensures.value) at c.in_ok-put.ensures in
    pushed _ _ (input_lines (c.loop-j.j + 1) (drop (c.loop-j.j + 1) ws)) _ _ _ line
    (inputs_more ws c.loop-j.j below) c.loop-j.invariant
