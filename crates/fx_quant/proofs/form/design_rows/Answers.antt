use Rattle.std.proofs.Common.{rules}
use Rattle.fx_net.specs.Tables.{net_of}
use Rattle.fx_quant.specs.Inside.{grid_of}
use Rattle.fx_quant.proofs.Faults.{rows_next, rows_later}
use Rattle.fx_quant.proofs.form.design_rows.Goals as goal

pub returns-in_err-row : goal.returns-in_err-row
returns-in_err-row c =
    let failed = rows_later c.args.formats.now (grid_of c.args.places.now) (net_of c.args.net.now) c.args.rows
    c.args.inputs c.loop-i.i _ c.in_err-row.field-0.0 c.loop-i-test.true c.loop-i.invariant
    c.in_err-row.ensures in
    search rules

pub loop-i-preserved : goal.loop-i-preserved
loop-i-preserved c =
    rows_next c.args.formats.now (grid_of c.args.places.now) (net_of c.args.net.now) c.args.rows c.args.inputs
    c.loop-i.i c.loop-i.list.items
    c.push.new.self.items c.in_ok-row.row c.loop-i.invariant c.in_ok-row.ensures c.in_ok-push.ensures.items
