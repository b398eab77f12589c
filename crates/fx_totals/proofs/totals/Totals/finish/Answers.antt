use Rattle.std.proofs.Common.{ap, sym}
use Rattle.fx_totals.specs.Kept.{Kept}
use Rattle.fx_totals.proofs.Kept.{filled_from}
use Rattle.fx_totals.proofs.Lines.{kept_of}
use Rattle.fx_totals.proofs.totals.Totals.finish.Goals as goal

pub returns : goal.returns
returns g c net lengths rows can held =
    filled_from (kept_of g.row.N c.self.inside.filled c.self.inside.leading c.self.inside.roundings.items
    c.self.inside.input_gains.items c.self.inside.widths.items c.self.inside.rests.items)
    c.args.self.now net c.args.targets.now lengths g.row.N c.leading_rows-self-inside.result c.self.view_is rows
    (ap (λ (k : Kept). k.size) (sym c.self.view_is)) can c.leading_rows-self-inside.ensures held
