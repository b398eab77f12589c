use Rattle.fx_net.proofs.Exact.{exact_in_net, exact_in_run}
use Rattle.fx_net.proofs.laws.expanded_rows_have_the_exact_values.Goals as goal

pub returns-clause-rows : goal.returns-clause-rows
returns-clause-rows c = λ eqs net at q g u z fits.
    exact_in_net eqs net at q g u z fits (c.exact_values_meet_their_equations.ensures eqs fits)

pub returns-clause-runs : goal.returns-clause-runs
returns-clause-runs c = λ eqs net at q g u z perturbations fits.
    exact_in_run eqs net at q g u z perturbations fits (c.exact_values_meet_their_equations.ensures eqs fits)
