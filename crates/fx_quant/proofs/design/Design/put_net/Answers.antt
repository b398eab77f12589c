use Rattle.std.proofs.Common.{length, refl, ◌∙◌}
use Rattle.fx_net.specs.Tables.{net_of}
use Rattle.fx_code.proofs.Placing.{rows_put}
use Rattle.fx_quant.proofs.design.Design.put_net.Goals as goal

pub returns : goal.returns
returns g c =
    let rows = c.args.self.now.rows in
    c.put_classes.ensures ∙ rows_put rows c.args.at (length rows) (net_of c.args.net.now) _ refl c.put_terms.ensures
    c.requires.empty
