use Rattle.std.proofs.Common.{◌<◌, ◌∙◌, length, length-set, arith}
use Rattle.fx_check.specs.Targets.{length_at}
use Rattle.fx_block.proofs.Places.{listed_more}
use Rattle.fx_check.proofs.targets.lengths.Goals as goal

pub loop-t-preserved : goal.loop-t-preserved
loop-t-preserved c =
    let inside : c.loop-t.t < length c.loop-t.lengths = omega arith in
    record {
      long = length-set c.loop-t.lengths c.loop-t.t c.length.result ∙ c.loop-t.invariant.long;
      first = listed_more c.loop-t.lengths c.loop-t.t (length_at c.args.f.now c.args.p.now c.args.c.now)
          c.length.result inside c.loop-t.invariant.first
          c.length.ensures;
    }
