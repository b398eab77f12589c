use Rattle.fx_cascade.proofs.FirstForm.{df1_has_outputs}
use Rattle.fx_cascade.proofs.laws.cascade_df1_keeps_the_outputs.Goals as goal

pub returns : goal.returns
returns c = df1_has_outputs c.args.sections.now c.requires
