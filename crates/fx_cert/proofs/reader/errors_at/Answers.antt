use Rattle.std.proofs.Common.{FitsSigned, to_z-of_z, rules}
use Rattle.std.specs.Int.{w128}
use Rattle.std.proofs.lemmas.Result.{err_from_is_err_and}
use Rattle.fx_cert.specs.Lines.{lines_of}
use Rattle.fx_cert.specs.Reading.{error_at}
use Rattle.fx_cert.proofs.Loops.{goes_on, ends, is_done}
use Rattle.fx_cert.proofs.reader.errors_at.Goals as goal

pub returns-in_err-error : goal.returns-in_err-error
returns-in_err-error c =
    let p = err_from_is_err_and c.from_residual.result c.from_residual.ensures.1 in
    rw (p.1, p.2) (ends (error_at c.args.rows c.args.outputs) c.in_err-error.field-0.0 c.loop-o.errors.items
    c.args.outputs c.loop-o.o (lines_of c.loop-o.rest.now) _ c.loop-o-test.true c.in_err-error.ensures.gives
    c.loop-o.invariant)

pub loop-o-preserved : goal.loop-o-preserved
loop-o-preserved c =
    let fits : FitsSigned w128 c.in_ok-error.error = search rules in
    rw (
      c.in_ok-push.ensures.items,
      to_z-of_z fits,
    ) (goes_on (error_at c.args.rows c.args.outputs) c.loop-o.errors.items c.args.outputs
    c.loop-o.o (lines_of c.loop-o.rest.now) c.in_ok-error.error (lines_of c.in_ok-error.after.now) _
    c.loop-o-test.true c.in_ok-error.ensures.gives c.loop-o.invariant)

pub returns : goal.returns
returns c = is_done (error_at c.args.rows c.args.outputs) c.loop-o.errors.items c.args.outputs c.loop-o.o
    (lines_of c.loop-o.rest.now) _ c.loop-o-test.false c.loop-o.invariant
