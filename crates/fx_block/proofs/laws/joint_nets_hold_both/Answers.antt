use Rattle.fx_block.proofs.JointNet.{joint_nets_hold_both}
use Rattle.fx_block.proofs.laws.joint_nets_hold_both.Goals as goal

pub returns : goal.returns
returns c = joint_nets_hold_both c.code_stands.ensures.code c.rows_stand.ensures c.other_rows_stay.ensures.each
    c.other_rows_stay.ensures.stand
