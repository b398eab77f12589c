use Rattle.std.proofs.Common.{◌≡◌, ◌<◌, ◌≤◌, ◌∙◌, None, arith, length, ap, refl}
use Rattle.std.proofs.lemmas.List.{get_or_read}
use Rattle.fx_totals.proofs.series.longest.Goals as goal
use Rattle.fx_totals.specs.Series.{nothing_kept, part_in, still_wanted}
use Rattle.fx_totals.proofs.SoFar.{each_before, wanted_at_most, wanted_when_open}

pub loop-l-preserved : goal.loop-l-preserved
loop-l-preserved g c =
    let parts = c.args.parts.now in
    let inside : c.loop-l.l < length parts = omega (arith, c.loop-l-test.true, c.requires) in
    let is : c.index-parts-l.result ≡ part_in parts c.loop-l.l =
    get_or_read parts c.loop-l.l c.index-parts-l.result inside c.index-parts-l.is nothing_kept in
    let wanted : c.wanted.result ≡ still_wanted (part_in parts c.loop-l.l) = c.wanted.ensures ∙ ap still_wanted is in
    record {
      covers = each_before c.loop-l.l
          (λ k. (part_in parts k).range ≡ None → (part_in parts k).moments ≤ c.greater-longest.result)
          (λ k less none. omega (arith, c.loop-l.invariant.covers k less none, c.greater-longest.ensures.first))
          (λ none. omega (
            arith,
            wanted,
            wanted_when_open (part_in parts c.loop-l.l) none,
            c.greater-longest.ensures.second,
          ));
      few = λ most bound. c.greater-longest.ensures.one most
          (c.loop-l.invariant.few most (λ k less. bound k (omega (arith, less))))
          (omega (
            arith,
            wanted,
            wanted_at_most (part_in parts c.loop-l.l) (part_in parts c.loop-l.l).range refl,
            bound c.loop-l.l (omega arith),
          ));
    }
