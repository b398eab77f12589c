use Rattle.fx_eqs.proofs.ExactRows.{exact_rows}
use Rattle.fx_eqs.proofs.laws.exact_values_meet_their_equations.Goals as goal

pub returns : goal.returns
returns c = exact_rows
