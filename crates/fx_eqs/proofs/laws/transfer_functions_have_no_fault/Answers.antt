use Rattle.fx_eqs.proofs.Recursions.{tf_has_no_fault}
use Rattle.fx_eqs.proofs.laws.transfer_functions_have_no_fault.Goals as goal

pub returns : goal.returns
returns c = tf_has_no_fault c.args.b.now c.args.a.now c.requires.b_high c.requires.a_high
