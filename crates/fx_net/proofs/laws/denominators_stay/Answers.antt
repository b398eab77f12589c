use Rattle.fx_net.proofs.OtherRows.{expanded_rows_are_divided, new_nets_are_divided, put_rows_are_divided}
use Rattle.fx_net.proofs.laws.denominators_stay.Goals as goal

pub returns-clause-new : goal.returns-clause-new
returns-clause-new c = new_nets_are_divided

pub returns-clause-put : goal.returns-clause-put
returns-clause-put c = put_rows_are_divided

pub returns-clause-expanded : goal.returns-clause-expanded
returns-clause-expanded c = expanded_rows_are_divided
