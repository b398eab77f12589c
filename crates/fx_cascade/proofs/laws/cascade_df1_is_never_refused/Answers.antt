use Rattle.fx_cascade.proofs.NeverRefused.{df1_never_refused}
use Rattle.fx_cascade.proofs.laws.cascade_df1_is_never_refused.Goals as goal

pub returns : goal.returns
returns c = df1_never_refused c.args.sections.now c.requires c.what_fits_has_no_fault.ensures
