use Rattle.std.proofs.Common.{◌<◌, ◌∙◌, arith, length, subst}
use Rattle.std.proofs.lemmas.List.{get_or_default, length-set}
use Rattle.fx_totals.proofs.series.refuse_each.Goals as goal
use Rattle.fx_totals.specs.Series.{IsRefusedOn, KeptAtLength, nothing_kept, part_in}
use Rattle.fx_totals.proofs.SoFar.{set_each, set_rest}

pub loop-l-preserved : goal.loop-l-preserved
loop-l-preserved g c =
    let inside : c.loop-l.l < length c.loop-l.parts =
    omega (arith, c.loop-l-test.true, c.requires.count, c.loop-l.invariant.long) in
    let was = get_or_default c.loop-l.parts c.loop-l.l c.index-parts-l.result nothing_kept inside
    ∙ c.loop-l.invariant.rest c.loop-l.l (omega arith) in
    let step = IsRefusedOn c.args.t c.args.at c.args.moments in
    record {
      long = length-set c.loop-l.parts c.loop-l.l c.refuse.new.self ∙ c.loop-l.invariant.long;
      rest = set_rest c.loop-l.parts c.loop-l.l c.refuse.new.self inside c.args.parts.now c.loop-l.invariant.rest;
      done = set_each c.loop-l.parts c.loop-l.l c.refuse.new.self inside
          (λ k q. step (part_in c.args.parts.now k) q) c.loop-l.invariant.done
          (subst (λ (p : KeptAtLength). step p c.refuse.new.self) was c.refuse.ensures);
    }

pub returns-clause-refused : goal.returns-clause-refused
returns-clause-refused g c l inside =
    c.loop-l.invariant.done l (omega (arith, c.loop-l-test.false, inside))
