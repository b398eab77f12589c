use Rattle.fx_gain.proofs.Holding.{enclosures_hold}
use Rattle.fx_gain.proofs.laws.enclosures_hold.Goals as goal

pub returns : goal.returns
returns c = enclosures_hold c.args.filter.now c.filters_fit.ensures
    (rw c.eqs.ensures.value at c.systems_fit.ensures)
    c.common_divides_each.ensures c.rows_stand.ensures c.other_rows_stay.ensures.empty c.other_rows_stay.ensures.new
    c.denominators_stay.ensures.new c.denominators_stay.ensures.put c.denominators_stay.ensures.expanded
    c.each_net_has_a_run.ensures c.expanded_rows_have_the_exact_values.ensures.runs
    c.raises_find_the_least.ensures.rest c.totals_serve_for_all_time.ensures c.bounds_hold_for_all_time.ensures.rows
    c.bounds_hold_for_all_time.ensures.targets c.targets_lie_between.ensures c.targets_have_these_values.ensures.row
