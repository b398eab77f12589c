use Rattle.fx_net.specs.Tables.{net_of}
use Rattle.fx_totals.proofs.totals.Totals.fill.Goals as goal

pub returns-clause-filled : goal.returns-clause-filled
returns-clause-filled g c =
    c.finish.ensures (net_of c.args.net.now) c.args.lengths.now c.nets_fit.ensures.rows c.requires
    c.in_ok-fill_targets.ensures.held
