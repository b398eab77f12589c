use Rattle.std.proofs.Common.{◌≡◌}
use Rattle.fx_eqs.specs.Expanded.{row_place}
use Rattle.fx_net.specs.Parts.{equations}
use Rattle.fx_net.specs.Rows.{put_each}
use Rattle.fx_net.specs.Tables.{net_of}
use Rattle.fx_net.proofs.net.Net.put_equations.Given as goal

abbrev pub invariant-loop-i : goal.invariant-loop-i
invariant-loop-i g l = net_of l.self
    ≡ put_each l.at (row_place l.layout.eqs.now 0) (equations l.layout.eqs.now l.i) (net_of l.initial.self)
