use Rattle.fx_space.proofs.Outputs.{space_has_outputs}
use Rattle.fx_space.proofs.laws.space_keeps_the_outputs.Goals as goal

pub returns : goal.returns
returns c = space_has_outputs c.args.sizes c.args.abcd.now c.requires
