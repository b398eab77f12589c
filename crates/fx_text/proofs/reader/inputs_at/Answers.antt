use Rattle.std.proofs.Common.{arith, rules}
use Rattle.fx_text.specs.Reading.{input_more}
use Rattle.fx_text.proofs.RepeatedSteps.{ends, goes_on, is_done}
use Rattle.fx_text.proofs.reader.inputs_at.Goals as goal

pub returns-in_err-at-clause-gives : goal.returns-in_err-at-clause-gives
returns-in_err-at-clause-gives c =
    let failed = ends c.in_err-at.field-0.0 (input_more c.args.text.now) c.args.count c.loop.counter
    (c.loop.widths.items, c.loop.at) _ c.loop-test.true c.in_err-at.ensures.gives c.loop.invariant.so_far in
    search rules

pub loop-preserved : goal.loop-preserved
loop-preserved c = record {
  within = c.in_ok-at.ensures.within;
  same_count = omega (arith, c.in_ok-at.ensures.more);
  so_far = goes_on (input_more c.args.text.now) c.args.count c.loop.counter (
    c.loop.widths.items,
    c.loop.at,
  ) (c.input_more.new.widths.items, c.in_ok-at.at) _ c.loop-test.true c.in_ok-at.ensures.gives
      c.loop.invariant.so_far;
}

pub returns-clause-gives : goal.returns-clause-gives
returns-clause-gives c =
    is_done (input_more c.args.text.now) c.args.count c.loop.counter (
      c.loop.widths.items,
      c.loop.at,
    ) _ c.loop-test.false c.loop.invariant.so_far
