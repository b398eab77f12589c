use Rattle.std.proofs.Common.{◌∙◌, ◌≡◌}
use Rattle.fx_net.specs.Tables.{net_of}
use Rattle.fx_net.specs.Rows.{put_rows}
use Rattle.fx_sif.specs.Inside.{form_of}
use Rattle.fx_sif.specs.Rows.{rows_of}
use Rattle.fx_sif.proofs.Placing.{entries_make_rows}
use Rattle.fx_sif.proofs.implicit.Sif.put_net.Goals as goal

pub returns : goal.returns
returns g c =
    let made : net_of c.put_entries.new.net
    ≡ put_rows (rows_of (form_of c.self.inside)) c.args.at (net_of c.args.net.now) =
    rw c.deref.ensures.value at c.put_entries.ensures
    ∙ entries_make_rows (form_of c.self.inside) c.args.at (net_of c.args.net.now) c.self.invariant.entries
    (rw (← c.self.view_is) at c.requires.empty) in
    rw (← c.self.view_is) made
