use Rattle.std.proofs.Common.{◌∙◌, List, Vec, Global, map, ap}
use Rattle.std.proofs.Math.IntN.{ℤ}
use Rattle.fx_mat.specs.Intervals.{interval_at}
use Rattle.fx_net.specs.Tables.{net_of}
use Rattle.fx_gain.specs.Enclosing.{enclosure, worst_words}
use Rattle.fx_gain.proofs.Placed.{one_more_interval, one_more_list, other_row}
use Rattle.fx_gain.proofs.finding.add_output.Goals as goal

pub loop-j-preserved : goal.loop-j-preserved
loop-j-preserved g c =
    let net = net_of c.args.block.now.net.now in
    let f = c.args.block.now.filter.now in
    let m = c.args.block.now.moments in
    let o = c.args.o in
    let j = c.loop-j.j in
    let old = interval_at c.loop-j.intervals in
    let new = interval_at c.set.new.self in
    let view : Vec ℤ Global → List ℤ = λ w. w.items in
    record {
      here = one_more_interval o j c.enclosure.result old new c.set.ensures (λ k. enclosure net f m o k)
          c.enclosure.ensures c.loop-j.invariant.here;
      others = λ p k ne. other_row o j c.enclosure.result old new c.set.ensures p k ne
          ∙ c.loop-j.invariant.others p k ne;
      words = ap (map view) c.in_ok-push.ensures.items
          ∙ one_more_list view c.loop-j.words.items c.in_ok-worst_words.field-0 (map view c.args.words.now.items) j
          (λ k. worst_words net f m o k) c.loop-j.invariant.words c.in_ok-worst_words.ensures;
    }
