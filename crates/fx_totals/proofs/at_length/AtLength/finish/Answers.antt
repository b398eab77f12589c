use Rattle.std.proofs.Common.{length, refl, subst, sym}
use Rattle.fx_totals.specs.Series.{IsSoFar, KeptAtLength, for_each}
use Rattle.fx_totals.proofs.SoFar.{all_done}
use Rattle.fx_totals.proofs.at_length.AtLength.finish.Goals as goal

pub returns : goal.returns
returns g c net wanted rows can so_far =
    let before : KeptAtLength = record {
      moments = c.self.inside.moments;
      kept = c.self.inside.totals;
      range = c.self.inside.range;
    } in
    let after : KeptAtLength = record before { kept = c.finish.new.self } in
    all_done before after net c.args.targets.now wanted refl
    (λ held. c.finish.ensures net (for_each c.args.targets.now wanted) rows can held)
    (subst (λ (p : KeptAtLength). IsSoFar p net c.args.targets.now wanted (length c.args.targets.now) 0)
    (sym c.self.view_is) so_far)
