use Rattle.fx_nums.specs.Fraction.{den_value}
use Rattle.fx_quant.proofs.Rounding.{doubled_within}
use Rattle.fx_quant.proofs.scaled.doubled_within.Goals as goal

pub returns-clause-bound : goal.returns-clause-bound
returns-clause-bound c =
    doubled_within c.doubled.result.number c.args.c.num c.args.fraction (den_value c.args.c.den)
    c.doubled.ensures.value c.num.ensures.fits.value_fits c.requires
