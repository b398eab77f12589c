use Rattle.std.proofs.Common.{◌≡◌, ◌<◌, ◌∙◌, get_or, length, length-set, arith}
use Rattle.std.proofs.lemmas.Int.{to_z-of_z}
use Rattle.fx_sim.specs.Plain.{BeginsWithWord}
use Rattle.fx_sim.proofs.PlainLines.{last_read, one_more}
use Rattle.fx_sim.proofs.plain.read_columns.Goals as goal

pub loop-j-preserved : goal.loop-j-preserved
loop-j-preserved c =
    let widths = c.args.program.now.inputs in
    let j = c.loop-j.j in
    let word = c.in_ok-word.word in
    let place : j < length c.loop-j.input = omega arith in
    let begins : BeginsWithWord c.loop-j.rest.now (get_or widths j 0) word c.in_ok-word.behind.now =
    rw c.input_width.ensures.value at c.in_ok-word.ensures.word in
    rw (to_z-of_z _ _ c.in_ok-word.ensures.fits) (record {
      places = length-set c.loop-j.input j word ∙ c.loop-j.invariant.places;
      read =
          one_more widths c.args.line.now c.loop-j.input j c.loop-j.rest.now word c.in_ok-word.behind.now
          c.in_ok-rest.rest.now c.loop-j.invariant.read begins c.in_ok-rest.ensures place;
    })

pub returns : goal.returns
returns c =
    let widths = c.args.program.now.inputs in
    let last = c.in_ok-last.last in
    let word = c.in_ok-word-2.word in
    let same : c.loop-j.j ≡ last = omega arith in
    let begins : BeginsWithWord c.loop-j.rest.now (get_or widths last 0) word c.in_ok-word-2.behind.now =
    rw c.input_width-2.ensures.value at c.in_ok-word-2.ensures.word in
    rw (to_z-of_z _ _ c.in_ok-word-2.ensures.fits)
    (last_read widths c.args.line.now c.loop-j.input last c.loop-j.rest.now word c.in_ok-word-2.behind.now
    c.in_ok-after_mark.field-0.now (rw same at c.loop-j.invariant.read) begins c.in_ok-after_mark.ensures (omega arith)
    c.loop-j.invariant.places)
