use Rattle.fx_net.proofs.Running.{each_net_has_a_run}
use Rattle.fx_net.proofs.laws.each_net_has_a_run.Goals as goal

pub returns : goal.returns
returns c = each_net_has_a_run
