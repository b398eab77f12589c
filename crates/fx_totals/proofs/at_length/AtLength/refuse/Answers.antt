use Rattle.std.proofs.Common.{◌<◌, ap, arith, refl}
use Rattle.fx_totals.specs.Series.{KeptAtLength, still_wanted}
use Rattle.fx_totals.proofs.SoFar.{open_is, target_passed, target_refused, wanted_when_open}
use Rattle.fx_totals.proofs.at_length.AtLength.refuse.Goals as goal

pub returns-then-moments-wanted : goal.returns-then-moments-wanted
returns-then-moments-wanted g c net targets wanted inside none here so_far =
    let p = c.args.self.now in
    let less : c.args.moments < still_wanted p = omega (arith, c.if-moments-wanted.true, c.wanted.ensures) in
    let is_open = open_is p p.range c.args.moments refl less in
    target_refused net targets wanted c.args.t c.args.moments p _ c.args.at is_open.0
    (omega (arith, is_open.1, so_far.wanted_is)) (ap (λ (q : KeptAtLength). q.moments) c.self.view_is) refl inside
    none here so_far

pub returns-else-moments-wanted : goal.returns-else-moments-wanted
returns-else-moments-wanted g c net targets wanted inside none here so_far =
    let p = c.args.self.now in
    target_passed net targets wanted c.args.t c.args.moments p p.range refl inside none
    (λ open_now. omega (
      arith,
      c.if-moments-wanted.false,
      c.wanted.ensures,
      wanted_when_open p open_now,
      so_far.wanted_is,
    )) so_far
