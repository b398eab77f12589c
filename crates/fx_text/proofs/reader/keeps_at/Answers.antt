use Rattle.std.proofs.Common.{◌+◌, ◌≡◌, arith, rules}
use Rattle.fx_text.specs.Reading.{keep_more}
use Rattle.fx_text.proofs.RepeatedSteps.{ends, goes_on, is_done}
use Rattle.fx_text.proofs.reader.keeps_at.Goals as goal

pub returns-in_err-at-clause-gives : goal.returns-in_err-at-clause-gives
returns-in_err-at-clause-gives c =
    let failed = ends c.in_err-at.field-0.0 (keep_more c.args.text.now) c.args.rows c.loop-row.row
    (c.loop-row.row, c.loop-row.at) _ c.loop-row-test.true c.in_err-at.ensures.gives
    c.loop-row.invariant.so_far in
    search rules

pub loop-row-preserved : goal.loop-row-preserved
loop-row-preserved c = record {
  within = c.in_ok-at.ensures.within;
  so_far = goes_on (keep_more c.args.text.now) c.args.rows c.loop-row.row (
    c.loop-row.row,
    c.loop-row.at,
  ) (c.loop-row.row + 1, c.in_ok-at.at) _ c.loop-row-test.true c.in_ok-at.ensures.gives
      c.loop-row.invariant.so_far;
}

pub returns-clause-gives : goal.returns-clause-gives
returns-clause-gives c =
    let all : c.loop-row.row ≡ c.args.rows = omega arith in
    let done = is_done (keep_more c.args.text.now) c.args.rows c.loop-row.row (
      c.loop-row.row,
      c.loop-row.at,
    ) _ c.loop-row-test.false c.loop-row.invariant.so_far in
    rw all at done
