use Rattle.std.proofs.Common.{◌∙◌}
use Rattle.fx_net.specs.Tables.{net_of}
use Rattle.fx_code.proofs.Placing.{code_put}
use Rattle.fx_code.proofs.program.Program.put_net.Goals as goal

pub returns : goal.returns
returns g c =
    c.put_classes.ensures ∙ code_put c.args.self.now c.args.at (net_of c.args.net.now) _ c.put_terms.ensures
    c.requires.empty
