use Rattle.std.proofs.Common.{◌≡◌, ◌+◌, ◌-◌}
use Rattle.fx_eqs.specs.Expanded.{hold_rows}
use Rattle.fx_net.specs.Layout.{read_of}
use Rattle.fx_net.specs.Rows.{ReadFits, put_each}
use Rattle.fx_net.specs.Tables.{net_of}
use Rattle.fx_net.proofs.net.Net.put_holds.Given as goal

abbrev pub invariant-loop-row : goal.invariant-loop-row
invariant-loop-row g l = record {
  read : ReadFits g.row.N l.at l.row (read_of l.from);
  put : put_each l.at l.row (hold_rows (read_of l.from) (l.place + l.count - l.row) l.row) (net_of l.self)
      ≡ put_each l.at l.place (hold_rows (read_of l.initial.from) l.count l.place) (net_of l.initial.self);
}
