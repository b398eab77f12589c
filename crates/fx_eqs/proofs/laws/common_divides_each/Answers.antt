use Rattle.fx_eqs.proofs.Denominators.{common_is_denominator}
use Rattle.fx_eqs.proofs.laws.common_divides_each.Goals as goal

pub returns : goal.returns
returns c = common_is_denominator
