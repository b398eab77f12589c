use Rattle.std.proofs.Common.{arith}
use Rattle.fx_tool.proofs.WrittenSoFar.{put_next}
use Rattle.fx_tool.proofs.writing.put_all.Goals as goal

pub rest-preserved : goal.rest-preserved
rest-preserved g c = record {
  put = put_next (g.K.Sink.seen c.args.out.now).told (g.K.Sink.seen c.rest.out).told
      (g.K.Sink.seen c.put_some.new.out).told c.args.text.now c.rest.rest.now c.in_ok-count.count
      c.in_ok-count.ensures.some.1 c.rest.invariant.put c.in_ok-count.ensures.told;
  faults = grind (arith, c.rest.invariant.faults, c.in_ok-count.ensures.cause.kept);
}
