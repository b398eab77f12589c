-- Denominators of fractions.
use Rattle.std.proofs.Common.{◌<◌, arith}
use Rattle.std.proofs.Math.Nat.{one-le-pow}
use Rattle.fx_nums.specs.Fraction.{den_value}
use Rattle.fx_nums.specs.declared.fraction.Den.{Den}
use Rattle.fx_nums.specs.declared.fraction.Den.TheVariants.{Two, Ten}

pub den_positive : (d : Den) → 0 < den_value d
den_positive (Two e) = one-le-pow e 2 (omega arith)
den_positive (Ten d) = one-le-pow d 10 (omega arith)
