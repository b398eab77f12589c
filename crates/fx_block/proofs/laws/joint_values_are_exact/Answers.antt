use Rattle.fx_block.proofs.JointNet.{joint_values_are_exact}
use Rattle.fx_block.proofs.laws.joint_values_are_exact.Goals as goal

pub returns : goal.returns
returns c = joint_values_are_exact c.args.program.now c.joint_nets_hold_both.ensures c.ideal_values_run.ensures
    c.expanded_rows_have_the_exact_values.ensures.rows
