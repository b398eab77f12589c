use Rattle.std.proofs.Common.{◌≡◌, map, drop}
use Rattle.fx_net.specs.Rows.{put_each}
use Rattle.fx_net.specs.Tables.{net_of}
use Rattle.fx_code.specs.NetRows.{net_row}
use Rattle.fx_quant.proofs.design.Design.put_terms.Given as goal

abbrev pub invariant-loop-i : goal.invariant-loop-i
invariant-loop-i g l =
    put_each l.at l.i (map net_row (drop l.i l.self.rows)) (net_of l.net)
    ≡ put_each l.at 0 (map net_row l.self.rows) (net_of l.initial.net)
