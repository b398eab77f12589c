use Rattle.std.proofs.Common.{◌<◌, length, take, arith}
use Rattle.std.proofs.lemmas.Int.{to_z-of_z}
use Rattle.std.proofs.lemmas.Result.{err_from_is_err_and}
use Rattle.csv.specs.Records.{fields_of}
use Rattle.fx_sim.proofs.WordsSoFar.{fault_read, more_read}
use Rattle.fx_sim.proofs.moment.read_words.Goals as goal

pub returns-in_err-word-clause-fault : goal.returns-in_err-word-clause-fault
returns-in_err-word-clause-fault c =
    let below : c.loop-j.j < length c.args.program.now.inputs = omega arith in
    let there : c.loop-j.j < length (fields_of c.args.row.now) = omega arith in
    let p = err_from_is_err_and c.from_residual.result c.from_residual.ensures.1 in
    rw (p.1, p.2)
    (fault_read c.args.number c.loop-j.j c.args.program.now.inputs (fields_of c.args.row.now)
    (take c.loop-j.j c.loop-j.input) c.in_err-word.field-0.0 _
    below there c.in_err-word.ensures.word c.loop-j.invariant)

pub loop-j-preserved : goal.loop-j-preserved
loop-j-preserved c =
    let place : c.loop-j.j < length c.loop-j.input = omega arith in
    let below : c.loop-j.j < length c.args.program.now.inputs = omega arith in
    let there : c.loop-j.j < length (fields_of c.args.row.now) = omega arith in
    rw (to_z-of_z _ _ c.in_ok-word.ensures.fits)
    (more_read c.args.number c.loop-j.j c.args.program.now.inputs (fields_of c.args.row.now) c.loop-j.input
    c.in_ok-word.field-0 _
    below there place c.in_ok-word.ensures.word c.loop-j.invariant)
