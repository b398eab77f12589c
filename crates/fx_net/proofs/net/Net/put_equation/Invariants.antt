use Rattle.std.proofs.Common.{◌≡◌, drop}
use Rattle.fx_eqs.specs.Expanded.{row_place}
use Rattle.fx_net.specs.Rows.{put_terms}
use Rattle.fx_net.specs.Tables.{net_of}
use Rattle.fx_net.proofs.Sources.{net_terms}
use Rattle.fx_net.proofs.net.Net.put_equation.Given as goal

abbrev pub invariant-loop-term : goal.invariant-loop-term
invariant-loop-term g l =
    put_terms l.at (row_place l.layout.eqs.now l.i)
    (net_terms l.layout.eqs.now l.i (drop l.term-index l.terms)) (net_of l.self)
    ≡ put_terms l.at (row_place l.layout.eqs.now l.i) (net_terms l.layout.eqs.now l.i l.terms) (net_of l.initial.self)
