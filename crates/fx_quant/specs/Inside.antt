-- The fields of a grid and of a design, as contracts see them.
use Rattle.std.specs.Prelude.{List, map, Vec}
use Rattle.std.specs.Global.{Global}
use Rattle.fx_code.specs.Code.{BareRow}
use Rattle.fx_quant.specs.Design.{Quantised}
use Rattle.fx_quant.specs.Positions.{Grid}
use Rattle.fx_quant.specs.declared.design.Design.TheInside.{Inside}
use Rattle.fx_quant.specs.declared.design.DesignRow.{DesignRow}
use Rattle.fx_quant.specs.declared.scaled.Places.{Places}

abbrev pub grid_of : Places → Grid
grid_of p = record { input_low = p.input_low; lows = p.lows.items; fraction = p.fraction }

abbrev pub row_of : DesignRow → BareRow
row_of r = record { shift = r.shift; mode = r.mode; terms = r.terms.items }

abbrev pub design_of : Inside → Quantised
design_of d = record { accumulator = d.accumulator; inputs = d.inputs; rows = map row_of d.rows.items }

abbrev pub rows_of : Vec DesignRow Global → List BareRow
rows_of rows = map row_of rows.items
