use Rattle.std.proofs.Common.{◌≡◌, ◌∙◌, ap, length, arith}
use Rattle.fx_eqs.specs.Equations.{Equations}
use Rattle.fx_eqs.specs.Expanded.{expanded}
use Rattle.fx_net.specs.Net.{empty_net}
use Rattle.fx_net.specs.Tables.{net_of}
use Rattle.fx_code.specs.NetRows.{put_code}
use Rattle.fx_check.proofs.Padding.{code_leaves_empty}
use Rattle.fx_check.proofs.judging.put_joint.Goals as goal

pub put_eqs-requires : goal.put_eqs-requires
put_eqs-requires g c =
    let count : length (expanded c.eqs.result.now) ≡ length (expanded c.args.f.now.equations) =
    ap (λ (s : Equations). length (expanded s)) c.eqs.ensures.value in
    let net : net_of c.put_net.new.net ≡ put_code c.args.p.now 0 (empty_net g.row.N) =
    c.put_net.ensures ∙ ap (put_code c.args.p.now 0) c.clear.ensures in
    let empty = code_leaves_empty c.args.p.now g.row.N (length c.args.p.now.rows)
    (length (expanded c.eqs.result.now)) (omega arith) in
    (omega arith, (omega (arith, count), rw (c.rows.ensures.value, net) empty))
