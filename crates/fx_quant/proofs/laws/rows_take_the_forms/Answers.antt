use Rattle.fx_quant.proofs.TakenCoefficients.{rounded_rows, fractions_are_small}
use Rattle.fx_quant.proofs.laws.rows_take_the_forms.Goals as goal

pub returns-clause-rows : goal.returns-clause-rows
returns-clause-rows c = rounded_rows

pub returns-clause-small : goal.returns-clause-small
returns-clause-small c = fractions_are_small
