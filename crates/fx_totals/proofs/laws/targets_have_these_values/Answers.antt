use Rattle.fx_totals.proofs.OneRow.{row_targets, pair_targets}
use Rattle.fx_totals.proofs.laws.targets_have_these_values.Goals as goal

pub returns-clause-row : goal.returns-clause-row
returns-clause-row c = row_targets

pub returns-clause-pair : goal.returns-clause-pair
returns-clause-pair c = pair_targets
