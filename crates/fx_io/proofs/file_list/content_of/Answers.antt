use Rattle.std.proofs.Common.{◌∙◌, sym, ap, Some, true, false}
use Rattle.fx_io.proofs.Found.{found_is, found_step, found_none}
use Rattle.fx_io.proofs.file_list.content_of.Goals as goal

pub returns-then-eq : goal.returns-then-eq
returns-then-eq c =
    let step = found_step c.args.name.now c.args.files.now c.loop-file.file-index c.file-item.result
    c.as_str.result.now true c.loop-file-test.true c.file-item.is c.as_str.ensures.value c.if-eq.ensures in
    found_is _ _ ∙ sym c.loop-file.invariant ∙ step ∙ ap Some (sym c.deref.ensures.value)

pub loop-file-preserved : goal.loop-file-preserved
loop-file-preserved c =
    let step = found_step c.args.name.now c.args.files.now c.loop-file.file-index c.file-item.result
    c.as_str.result.now false c.loop-file-test.true c.file-item.is c.as_str.ensures.value c.if-eq.ensures in
    sym step ∙ c.loop-file.invariant

pub returns : goal.returns
returns c = found_is _ _ ∙ sym c.loop-file.invariant ∙ found_none _ _ _ c.loop-file-test.false
