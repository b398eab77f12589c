use Rattle.std.proofs.Common.{◌≡◌}
use Rattle.fx_net.specs.Tables.{net_of}
use Rattle.fx_code.specs.Code.{row_at}
use Rattle.fx_code.specs.NetRows.{class_of, put_classes}
use Rattle.fx_code.proofs.program.Program.put_classes.Given as goal

abbrev pub invariant-loop-i : goal.invariant-loop-i
invariant-loop-i g l =
    net_of l.net ≡ record (net_of l.initial.net) {
      class =
          put_classes (λ r. class_of (row_at l.self r).own) l.at l.i (net_of l.initial.net).class;
    }
