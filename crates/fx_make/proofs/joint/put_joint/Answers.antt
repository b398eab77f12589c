use Rattle.std.proofs.Common.{◌≡◌, ◌∙◌, ap, length, arith}
use Rattle.fx_eqs.specs.Equations.{Equations}
use Rattle.fx_eqs.specs.Expanded.{expanded}
use Rattle.fx_net.specs.Net.{empty_net}
use Rattle.fx_net.specs.Tables.{net_of}
use Rattle.fx_code.specs.NetRows.{put_bare_rows}
use Rattle.fx_block.proofs.Padding.{rows_leave_empty}
use Rattle.fx_make.proofs.joint.put_joint.Goals as goal

pub put_eqs-requires : goal.put_eqs-requires
put_eqs-requires g c =
    let rows = c.args.d.now.rows in
    let count : length (expanded c.eqs.result.now) ≡ length (expanded c.args.f.now.equations) =
    ap (λ (s : Equations). length (expanded s)) c.eqs.ensures.value in
    let net : net_of c.put_net.new.net ≡ put_bare_rows rows 0 (empty_net g.row.N) =
    c.put_net.ensures ∙ ap (put_bare_rows rows 0) c.clear.ensures in
    let empty = rows_leave_empty rows g.row.N (length rows) (length (expanded c.eqs.result.now)) (omega arith) in
    (omega arith, (omega (arith, count), rw (c.rows.ensures, net) empty))
