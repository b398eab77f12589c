use Rattle.std.proofs.Common.{length}
use Rattle.fx_files.proofs.lists.+each_monic.Given as goal

abbrev pub decreases-each_monic : goal.decreases-each_monic
decreases-each_monic l = length l.coefficients.now
