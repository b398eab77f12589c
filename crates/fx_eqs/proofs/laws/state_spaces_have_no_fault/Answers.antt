use Rattle.fx_eqs.proofs.Matrices.{ss_has_no_fault}
use Rattle.fx_eqs.proofs.laws.state_spaces_have_no_fault.Goals as goal

pub returns : goal.returns
returns c = ss_has_no_fault c.args.n c.args.m c.args.p c.args.a.now c.args.b.now c.args.c.now c.args.d.now
    c.requires.states c.requires.inputs c.requires.outputs_low c.requires.outputs_high
