use Rattle.std.proofs.Common.{◌≡◌, ◌-◌, ◌<◌, ◌∙◌, length, length-set, arith}
use Rattle.fx_eqs.specs.Expanded.{row_hold_place}
use Rattle.fx_eqs.specs.Lags.{greatest_lag}
use Rattle.fx_eqs.specs.declared.term.Source.TheVariants.{Row}
use Rattle.fx_net.proofs.Numbers.{one_more_written}
use Rattle.fx_net.proofs.Positions.{sum_next}
use Rattle.fx_net.proofs.layout.row_places.Goals as goal

pub loop-j-preserved : goal.loop-j-preserved
loop-j-preserved c =
    let inside : c.loop-j.j < length c.loop-j.places = omega arith in
    let lag : c.greatest_lag.result ≡ greatest_lag (Row c.loop-j.j) c.args.eqs.now.terms =
    c.greatest_lag.ensures.value in
    let next = sum_next (λ j. greatest_lag (Row j) c.args.eqs.now.terms - 1) c.loop-j.j in
    record {
      next = omega (arith, lag, next);
      high = omega arith;
      count = length-set c.loop-j.places c.loop-j.j c.loop-j.next ∙ c.loop-j.invariant.count;
      places = one_more_written c.loop-j.places (row_hold_place c.args.eqs.now) c.loop-j.j c.loop-j.next inside
          c.loop-j.invariant.next c.loop-j.invariant.places;
    }
