use Rattle.fx_eqs.proofs.Recursions.{sos_has_no_fault}
use Rattle.fx_eqs.proofs.laws.cascades_have_no_fault.Goals as goal

pub returns : goal.returns
returns c = sos_has_no_fault c.args.count c.args.sections.now c.requires.low c.requires.high c.requires.whole
