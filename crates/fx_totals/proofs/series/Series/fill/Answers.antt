use Rattle.std.proofs.Common.{◌≡◌, List, refl, rules, subst, sym}
use Rattle.std.proofs.lemmas.List.{places, with_items_is}
use Rattle.std.specs.Vec.{with_items}
use Rattle.fx_net.specs.Tables.{net_of}
use Rattle.fx_totals.specs.Series.{AreDone, KeptAtLength}
use Rattle.fx_totals.proofs.SoFar.{series_done}
use Rattle.fx_totals.proofs.series.Series.fill.Goals as goal

pub returns-clause-filled : goal.returns-clause-filled
returns-clause-filled g c =
    let items : (with_items c.self.inside.parts c.fill_parts.new.parts).items ≡ c.fill_parts.new.parts =
    with_items_is c.self.inside.parts c.fill_parts.new.parts (search (rules, places)) in
    series_done _ (net_of c.args.net.now) c.args.targets.now c.args.lengths.now refl
    (subst (λ (parts : List KeptAtLength). AreDone parts (net_of c.args.net.now) c.args.targets.now c.args.lengths.now)
    (sym items) c.fill_parts.ensures.done)
