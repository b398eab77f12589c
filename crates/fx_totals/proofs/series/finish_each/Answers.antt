use Rattle.std.proofs.Common.{◌<◌, ◌∙◌, arith, length, subst, sym}
use Rattle.std.proofs.lemmas.List.{get_or_default, length-set}
use Rattle.fx_net.specs.Tables.{net_of}
use Rattle.fx_totals.proofs.series.finish_each.Goals as goal
use Rattle.fx_totals.specs.Filled.{length_in}
use Rattle.fx_totals.specs.Series.{IsDone, IsSoFar, KeptAtLength, nothing_kept}
use Rattle.fx_totals.proofs.SoFar.{each_can_be_filled, set_each, set_rest}

pub loop-l-preserved : goal.loop-l-preserved
loop-l-preserved g c =
    let net = net_of c.args.net.now in
    let targets = c.args.targets.now in
    let lengths = c.args.lengths.now in
    let inside : c.loop-l.l < length c.loop-l.parts =
    omega (arith, c.loop-l-test.true, c.requires.parts, c.loop-l.invariant.long) in
    let was = get_or_default c.loop-l.parts c.loop-l.l c.index-parts-l.result nothing_kept inside
    ∙ c.loop-l.invariant.rest c.loop-l.l (omega arith) in
    let before = subst (λ (p : KeptAtLength). IsSoFar p net targets (length_in lengths c.loop-l.l) (length targets) 0)
    (sym was) (c.requires.before c.loop-l.l c.loop-l-test.true) in
    record {
      long = length-set c.loop-l.parts c.loop-l.l c.finish.new.self ∙ c.loop-l.invariant.long;
      rest = set_rest c.loop-l.parts c.loop-l.l c.finish.new.self inside c.args.parts.now c.loop-l.invariant.rest;
      done = set_each c.loop-l.parts c.loop-l.l c.finish.new.self inside
          (λ k q. IsDone q net targets (length_in lengths k)) c.loop-l.invariant.done
          (c.finish.ensures net (length_in lengths c.loop-l.l) c.nets_fit.ensures.rows
          (each_can_be_filled g.row.N targets lengths c.loop-l.l c.requires.can c.loop-l-test.true) before);
    }
