use Rattle.std.proofs.Common.{◌<◌, ◌∙◌, arith, length, subst}
use Rattle.std.proofs.lemmas.List.{length-set}
use Rattle.fx_totals.proofs.series.begin_each.Goals as goal
use Rattle.fx_totals.specs.Filled.{length_in}
use Rattle.fx_totals.specs.Series.{IsSoFar}
use Rattle.fx_totals.proofs.SoFar.{set_each}

pub loop-l-preserved : goal.loop-l-preserved
loop-l-preserved g c =
    let inside : c.loop-l.l < length c.loop-l.parts =
    omega (arith, c.loop-l-test.true, c.requires.few, c.loop-l.invariant.long) in
    record {
      long = length-set c.loop-l.parts c.loop-l.l c.begin.new.self ∙ c.loop-l.invariant.long;
      begun = λ net targets. set_each c.loop-l.parts c.loop-l.l c.begin.new.self inside
          (λ k q. IsSoFar q net targets (length_in c.args.lengths.now k) 0 0)
          (c.loop-l.invariant.begun net targets)
          (subst (λ n. IsSoFar c.begin.new.self net targets n 0 0) c.length_at.ensures (c.begin.ensures net targets));
    }
