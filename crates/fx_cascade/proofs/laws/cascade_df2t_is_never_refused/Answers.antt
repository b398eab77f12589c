use Rattle.fx_cascade.proofs.NeverRefused.{df2t_never_refused}
use Rattle.fx_cascade.proofs.laws.cascade_df2t_is_never_refused.Goals as goal

pub returns : goal.returns
returns c = df2t_never_refused c.args.sections.now c.requires c.what_fits_has_no_fault.ensures
