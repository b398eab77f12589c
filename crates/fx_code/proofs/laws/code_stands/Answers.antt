use Rattle.fx_code.proofs.Placing.{bare_rows_stand, code_stands}
use Rattle.fx_code.proofs.laws.code_stands.Goals as goal

pub returns-clause-rows : goal.returns-clause-rows
returns-clause-rows c = bare_rows_stand c.rows_stand.ensures

pub returns-clause-code : goal.returns-clause-code
returns-clause-code c = code_stands c.rows_stand.ensures
