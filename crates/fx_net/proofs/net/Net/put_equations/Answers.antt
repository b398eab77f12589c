use Rattle.std.proofs.Common.{[], ◌∷◌, arith}
use Rattle.fx_eqs.specs.Expanded.{row_place, equation_row}
use Rattle.fx_net.specs.Tables.{net_of}
use Rattle.fx_net.proofs.Filling.{part_next}
use Rattle.fx_net.proofs.Positions.{length-equations}
use Rattle.fx_net.proofs.net.Net.put_equations.Goals as goal

pub loop-i-preserved : goal.loop-i-preserved
loop-i-preserved g c =
    let s = c.args.layout.now.eqs.now in
    rw c.put_equation.ensures
    (part_next c.args.at (row_place s 0) (row_place s c.loop-i.i) c.loop-i.i (λ i.
    equation_row s i ∷ []) (net_of c.loop-i.self) (net_of c.args.self.now)
    (omega (arith, length-equations s c.loop-i.i)) c.loop-i.invariant)
