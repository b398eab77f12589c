use Rattle.std.proofs.Common.{◌≡◌, ◌+◌, ◌++◌, drop}
use Rattle.fx_sif.specs.Entries.{across}
use Rattle.fx_sif.proofs.entries.add_across.Given as goal

abbrev pub invariant-loop-coef : goal.invariant-loop-coef
invariant-loop-coef l = record {
  column : l.column ≡ l.first + l.coef-index;
  reads : l.entries.items ++ across l.block l.i l.column (drop l.coef-index l.coefficients)
      ≡ l.fn.entries.items ++ across l.block l.i l.first l.coefficients;
}
