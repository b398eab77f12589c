use Rattle.std.proofs.Common.{◌≡◌, map, drop}
use Rattle.fx_net.specs.Rows.{put_terms}
use Rattle.fx_net.specs.Tables.{net_of}
use Rattle.fx_code.specs.NetRows.{net_term}
use Rattle.fx_quant.proofs.design.Design.put_row.Given as goal

abbrev pub invariant-loop-term : goal.invariant-loop-term
invariant-loop-term g l =
    put_terms l.at l.i (map (net_term l.shift) (drop l.term-index l.term-items)) (net_of l.net)
    ≡ put_terms l.at l.i (map (net_term l.shift) l.term-items) (net_of l.initial.net)
