use Rattle.std.proofs.Common.{◌≡◌, ◌+◌, ◌-◌, ◌∙◌, sym, arith, suc}
use Rattle.fx_net.specs.Layout.{read_of}
use Rattle.fx_net.specs.Tables.{net_of}
use Rattle.fx_net.proofs.Filling.{hold_next}
use Rattle.fx_net.proofs.net.Net.put_holds.Goals as goal

pub loop-row-preserved : goal.loop-row-preserved
loop-row-preserved g c =
    let left : c.args.place + c.args.count - c.loop-row.row
    ≡ suc (c.args.place + c.args.count - (c.loop-row.row + 1)) = omega arith in
    record {
      read = omega arith;
      put =
          rw (c.put_term.ensures, c.one.ensures)
          (sym (hold_next c.args.at c.loop-row.row _ _ (read_of c.loop-row.from) (net_of c.loop-row.self) left)
          ∙ c.loop-row.invariant.put);
    }
