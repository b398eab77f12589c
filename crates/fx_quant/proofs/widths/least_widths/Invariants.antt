use Rattle.std.proofs.Common.{take, All}
use Rattle.fx_math.specs.Words.{WidthFits}
use Rattle.fx_quant.specs.Widths.{HasLeastWidths}
use Rattle.fx_quant.proofs.widths.least_widths.Given as goal

abbrev pub invariant-loop-bound : goal.invariant-loop-bound
invariant-loop-bound l = record {
  least : HasLeastWidths (take l.bound-index l.bounds) l.widths.items;
  fits : All WidthFits l.widths.items;
}
