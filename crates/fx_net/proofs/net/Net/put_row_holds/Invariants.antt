use Rattle.std.proofs.Common.{◌≡◌}
use Rattle.fx_eqs.specs.Expanded.{row_place}
use Rattle.fx_net.specs.Parts.{row_holds}
use Rattle.fx_net.specs.Rows.{put_each}
use Rattle.fx_net.specs.Tables.{net_of}
use Rattle.fx_net.proofs.net.Net.put_row_holds.Given as goal

abbrev pub invariant-loop-j : goal.invariant-loop-j
invariant-loop-j g l = net_of l.self
    ≡ put_each l.at (row_place l.layout.eqs.now l.layout.eqs.now.rows) (row_holds l.layout.eqs.now l.j)
    (net_of l.initial.self)
