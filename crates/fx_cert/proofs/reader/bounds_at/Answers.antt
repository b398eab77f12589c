use Rattle.std.proofs.Common.{FitsSigned, to_z-of_z, rules, w64}
use Rattle.std.proofs.lemmas.Result.{err_from_is_err_and}
use Rattle.fx_cert.specs.Lines.{lines_of}
use Rattle.fx_cert.specs.Reading.{bound_at}
use Rattle.fx_cert.proofs.Loops.{goes_on, ends, is_done}
use Rattle.fx_cert.proofs.reader.bounds_at.Goals as goal

pub returns-in_err-bound-clause-gives : goal.returns-in_err-bound-clause-gives
returns-in_err-bound-clause-gives c =
    let p = err_from_is_err_and c.from_residual.result c.from_residual.ensures.1 in
    rw (p.1, p.2) (ends (bound_at c.args.rows) c.in_err-bound.field-0.0 c.loop-i.bounds.items c.args.rows
    c.loop-i.i (lines_of c.loop-i.rest.now) _ c.loop-i-test.true c.in_err-bound.ensures.gives
    c.loop-i.invariant.goes_on)

pub loop-i-preserved : goal.loop-i-preserved
loop-i-preserved c =
    let fits : FitsSigned w64 c.in_ok-bound.bound = search rules in
    record {
      count = search rules;
      goes_on = rw (c.in_ok-push.ensures.items, to_z-of_z fits)
          (goes_on (bound_at c.args.rows) c.loop-i.bounds.items c.args.rows c.loop-i.i
          (lines_of c.loop-i.rest.now) c.in_ok-bound.bound (lines_of c.in_ok-bound.after.now) _
          c.loop-i-test.true c.in_ok-bound.ensures.gives c.loop-i.invariant.goes_on);
    }

pub returns-clause-gives : goal.returns-clause-gives
returns-clause-gives c =
    is_done (bound_at c.args.rows) c.loop-i.bounds.items c.args.rows c.loop-i.i (lines_of c.loop-i.rest.now) _
    c.loop-i-test.false c.loop-i.invariant.goes_on
