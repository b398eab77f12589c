use Rattle.std.proofs.Common.{◌≡◌}
use Rattle.fx_net.specs.Parts.{input_holds}
use Rattle.fx_net.specs.Rows.{put_each}
use Rattle.fx_net.specs.Tables.{net_of}
use Rattle.fx_net.proofs.net.Net.put_input_holds.Given as goal

abbrev pub invariant-loop-j : goal.invariant-loop-j
invariant-loop-j g l = net_of l.self ≡ put_each l.at 0 (input_holds l.layout.eqs.now l.j) (net_of l.initial.self)
