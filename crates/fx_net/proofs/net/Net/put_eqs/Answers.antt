use Rattle.std.proofs.Common.{◌∙◌}
use Rattle.fx_eqs.specs.Expanded.{expanded}
use Rattle.fx_net.specs.Tables.{net_of}
use Rattle.fx_net.proofs.Filling.{filled, three_parts}
use Rattle.fx_net.proofs.net.Net.put_eqs.Goals as goal

pub returns : goal.returns
returns g c =
    let one = rw c.new-layout.ensures at c.put_input_holds.ensures in
    let two = rw c.new-layout.ensures at c.put_equations.ensures in
    let three = rw c.new-layout.ensures at c.put_row_holds.ensures in
    rw (three, two, one) (three_parts c.args.at c.args.eqs.now (net_of c.args.self.now)
    ∙ filled c.args.at (expanded c.args.eqs.now) (net_of c.args.self.now) c.requires.empty)
