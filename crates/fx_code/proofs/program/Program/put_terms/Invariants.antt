use Rattle.std.proofs.Common.{◌≡◌, map, drop}
use Rattle.fx_net.specs.Rows.{put_each}
use Rattle.fx_net.specs.Tables.{net_of}
use Rattle.fx_code.specs.Code.{bare}
use Rattle.fx_code.specs.NetRows.{bare_rows, net_row}
use Rattle.fx_code.proofs.program.Program.put_terms.Given as goal

abbrev pub invariant-loop-i : goal.invariant-loop-i
invariant-loop-i g l =
    put_each l.at l.i (map net_row (map bare (drop l.i l.self.rows))) (net_of l.net)
    ≡ put_each l.at 0 (map net_row (bare_rows l.self)) (net_of l.initial.net)
