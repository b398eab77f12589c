use Rattle.fx_block.proofs.Bounded.{exact_rows, near_pairs, within_rows}
use Rattle.fx_block.proofs.laws.bounds_make_near.Goals as goal

pub returns-clause-exact : goal.returns-clause-exact
returns-clause-exact c =
    exact_rows c.args.program.now c.programs_fit.ensures c.joint_nets_have_a_denominator.ensures.common
    c.common_divides_each.ensures
    c.joint_nets_hold_both.ensures c.ideal_values_run.ensures c.joint_values_are_exact.ensures
    c.bounded_rows_are_exact.ensures

pub returns-clause-near : goal.returns-clause-near
returns-clause-near c =
    near_pairs c.args.program.now c.programs_fit.ensures c.joint_nets_have_a_denominator.ensures.common
    c.common_divides_each.ensures
    c.joint_nets_hold_both.ensures c.ideal_values_run.ensures c.joint_values_are_exact.ensures
    c.bounded_rows_are_exact.ensures c.totals_serve_for_all_time.ensures
    c.targets_have_these_values.ensures.pair

pub returns-clause-original : goal.returns-clause-original
returns-clause-original c =
    within_rows c.args.program.now c.programs_fit.ensures c.joint_nets_have_a_denominator.ensures.common
    c.common_divides_each.ensures
    c.joint_nets_hold_both.ensures c.ideal_values_run.ensures c.joint_values_are_exact.ensures
    c.bounds_hold_for_all_time.ensures.rows c.expanded_rows_agree.ensures
