use Rattle.std.proofs.Common.{arith, length, subst, sym}
use Rattle.fx_net.specs.Rows.{AreEmpty}
use Rattle.fx_net.specs.Tables.{net_of}
use Rattle.fx_eqs.specs.Expanded.{expanded}
use Rattle.fx_gain.proofs.Holding.{count_inside, made_so}
use Rattle.fx_gain.proofs.finding.original_net.Goals as goal

pub put_eqs-requires : goal.put_eqs-requires
put_eqs-requires g c =
    let system = rw c.eqs.ensures.value at c.systems_fit.ensures in
    let few = rw (← c.eqs-2.ensures.value) at (count_inside c.args.f.now system) in (
      omega arith,
      (
        omega (arith, few, c.requires),
        subst (AreEmpty 0 (length (expanded c.eqs-2.result.now))) (sym c.in_ok-net.ensures)
            (c.other_rows_stay.ensures.new 0 (length (expanded c.eqs-2.result.now)) g.row.N),
      ),
    )

pub returns : goal.returns
returns g c = made_so c.args.f.now c.eqs-2.result.now g.row.N (net_of c.in_ok-net.net) (net_of c.put_eqs.new.self)
    c.requires c.eqs-2.ensures.value c.in_ok-net.ensures c.put_eqs.ensures
