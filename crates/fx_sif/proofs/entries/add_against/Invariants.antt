use Rattle.std.proofs.Common.{◌≡◌, ◌+◌, ◌++◌, drop, map}
use Rattle.fx_nums.specs.Fraction.{minus}
use Rattle.fx_sif.specs.Entries.{across}
use Rattle.fx_sif.proofs.entries.add_against.Given as goal

abbrev pub invariant-loop-coef : goal.invariant-loop-coef
invariant-loop-coef l = record {
  column : l.column ≡ l.first + l.coef-index;
  reads : l.entries.items ++ across l.block l.i l.column (map minus (drop l.coef-index l.coefficients))
      ≡ l.fn.entries.items ++ across l.block l.i l.first (map minus l.coefficients);
}
