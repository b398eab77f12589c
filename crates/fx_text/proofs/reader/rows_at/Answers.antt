use Rattle.std.proofs.Common.{rules}
use Rattle.fx_text.specs.Reading.{row_more}
use Rattle.fx_text.proofs.RepeatedSteps.{ends, goes_on, is_done}
use Rattle.fx_text.proofs.reader.rows_at.Goals as goal

pub returns-in_err-at-clause-gives : goal.returns-in_err-at-clause-gives
returns-in_err-at-clause-gives c =
    let failed = ends c.in_err-at.field-0.0 (row_more c.args.rows c.args.text.now) c.args.rows c.loop.counter
    (c.loop.program, c.loop.at) _ c.loop-test.true c.in_err-at.ensures.gives c.loop.invariant.so_far in
    search rules

pub loop-preserved : goal.loop-preserved
loop-preserved c = record {
  within = c.in_ok-at.ensures.within;
  so_far = goes_on (row_more c.args.rows c.args.text.now) c.args.rows c.loop.counter (
    c.loop.program,
    c.loop.at,
  ) (c.row_more.new.program, c.in_ok-at.at) _ c.loop-test.true c.in_ok-at.ensures.gives
      c.loop.invariant.so_far;
}

pub returns-clause-gives : goal.returns-clause-gives
returns-clause-gives c =
    is_done (row_more c.args.rows c.args.text.now) c.args.rows c.loop.counter (
      c.loop.program,
      c.loop.at,
    ) _ c.loop-test.false c.loop.invariant.so_far
