use Rattle.fx_math.proofs.Residue.{residue_range, residue_congruence}
use Rattle.fx_math.proofs.residue_is_congruent.Goals as goal

pub returns-clause-range : goal.returns-clause-range
returns-clause-range c = residue_range

pub returns-clause-congruent : goal.returns-clause-congruent
returns-clause-congruent c = residue_congruence
