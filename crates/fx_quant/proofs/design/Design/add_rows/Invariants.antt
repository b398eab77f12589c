use Rattle.std.proofs.Common.{◌≡◌}
use Rattle.fx_quant.specs.Design.{sized_rows}
use Rattle.fx_quant.proofs.design.Design.add_rows.Given as goal

abbrev pub invariant-loop-i : goal.invariant-loop-i
invariant-loop-i l = l.program ≡ record l.fn.program { rows = sized_rows l.widths l.self.rows l.i }
