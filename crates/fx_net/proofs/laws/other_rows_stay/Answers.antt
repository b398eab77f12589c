use Rattle.fx_net.proofs.Empty.{new_rows_are_empty}
use Rattle.fx_net.proofs.OtherRows.{other_rows_stay, other_rows_still_stand, other_rows_stay_empty}
use Rattle.fx_net.proofs.laws.other_rows_stay.Goals as goal

pub returns-clause-each : goal.returns-clause-each
returns-clause-each c = other_rows_stay

pub returns-clause-stand : goal.returns-clause-stand
returns-clause-stand c = other_rows_still_stand

pub returns-clause-empty : goal.returns-clause-empty
returns-clause-empty c = other_rows_stay_empty

pub returns-clause-new : goal.returns-clause-new
returns-clause-new c = new_rows_are_empty
