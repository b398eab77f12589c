use Rattle.fx_eqs.proofs.Expanding.{length-expanded}
use Rattle.fx_eqs.proofs.system.Eqs.net_rows.Goals as goal

pub returns-clause-value : goal.returns-clause-value
returns-clause-value c = rw (length-expanded c.args.self.now, ← c.self.view_is) c.self.invariant.net
