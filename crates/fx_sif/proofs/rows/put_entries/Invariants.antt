use Rattle.std.proofs.Common.{◌≡◌, drop}
use Rattle.fx_net.specs.Tables.{net_of}
use Rattle.fx_sif.specs.Rows.{put_entries}
use Rattle.fx_sif.proofs.rows.put_entries.Given as goal

abbrev pub invariant-loop-entry : goal.invariant-loop-entry
invariant-loop-entry g l = put_entries l.sizes l.at (drop l.entry-index l.entries) (net_of l.net)
    ≡ put_entries l.sizes l.at l.entries (net_of l.initial.net)
