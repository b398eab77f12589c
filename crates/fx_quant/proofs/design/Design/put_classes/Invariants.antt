use Rattle.std.proofs.Common.{◌≡◌}
use Rattle.fx_net.specs.Tables.{net_of}
use Rattle.fx_code.specs.NetRows.{classes_of, put_classes}
use Rattle.fx_quant.proofs.design.Design.put_classes.Given as goal

abbrev pub invariant-loop-i : goal.invariant-loop-i
invariant-loop-i g l =
    net_of l.net ≡ record (net_of l.initial.net) {
      class = put_classes (classes_of l.self.rows) l.at l.i (net_of l.initial.net).class;
    }
