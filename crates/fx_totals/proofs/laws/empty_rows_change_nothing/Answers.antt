use Rattle.fx_totals.proofs.PaddedNumbers.{empty_rows_change_nothing}
use Rattle.fx_totals.proofs.laws.empty_rows_change_nothing.Goals as goal

pub returns : goal.returns
returns c = empty_rows_change_nothing
