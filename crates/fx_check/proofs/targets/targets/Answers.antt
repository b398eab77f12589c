use Rattle.std.proofs.Common.{◌<◌, ◌∙◌, length, length-set, arith}
use Rattle.fx_check.specs.Targets.{target_at}
use Rattle.fx_block.proofs.Places.{listed_more}
use Rattle.fx_check.proofs.targets.targets.Goals as goal

pub loop-t-preserved : goal.loop-t-preserved
loop-t-preserved c =
    let inside : c.loop-t.t < length c.loop-t.targets = omega arith in
    record {
      long = length-set c.loop-t.targets c.loop-t.t c.target.result ∙ c.loop-t.invariant.long;
      first = listed_more c.loop-t.targets c.loop-t.t (target_at c.args.f.now c.args.p.now) c.target.result
          inside c.loop-t.invariant.first
          c.target.ensures;
    }
