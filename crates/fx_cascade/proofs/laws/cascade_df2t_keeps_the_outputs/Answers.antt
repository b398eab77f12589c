use Rattle.fx_cascade.proofs.Transposed.{df2t_has_outputs}
use Rattle.fx_cascade.proofs.laws.cascade_df2t_keeps_the_outputs.Goals as goal

pub returns : goal.returns
returns c = df2t_has_outputs c.args.sections.now c.requires
