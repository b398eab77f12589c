use Rattle.fx_sweep.proofs.Repeated.{is_repeated, no_range_met}
use Rattle.fx_sweep.proofs.laws.standing_moments_repeat.Goals as goal

pub returns-clause-numbers : goal.returns-clause-numbers
returns-clause-numbers c net start n k stands = is_repeated net start n stands k

pub returns-clause-ranges : goal.returns-clause-ranges
returns-clause-ranges c net start n k stands none below = no_range_met net start n stands k none below
