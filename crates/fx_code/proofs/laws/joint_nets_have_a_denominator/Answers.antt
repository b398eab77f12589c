use Rattle.fx_code.proofs.Joint.{joint_denominator, joint_common}
use Rattle.fx_code.proofs.laws.joint_nets_have_a_denominator.Goals as goal

pub returns-clause-each : goal.returns-clause-each
returns-clause-each c = joint_denominator c.denominators_stay.ensures.new c.denominators_stay.ensures.put
    c.denominators_stay.ensures.expanded

pub returns-clause-common : goal.returns-clause-common
returns-clause-common c =
    joint_common (joint_denominator c.denominators_stay.ensures.new c.denominators_stay.ensures.put
    c.denominators_stay.ensures.expanded) c.common_divides_each.ensures
