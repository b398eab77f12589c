-- What is left of a walk.
use Rattle.std.specs.Prelude.{List}
use Rattle.fx_cross.specs.declared.cross.Link.{Link}
use Rattle.fx_cross.specs.declared.walk.Row.{Row}
use Rattle.fx_cross.specs.declared.walk.Column.{Column}
use Rattle.fx_cross.specs.Walks.{row_line, column_line, links_from}

abbrev pub row_rest : Row → List Link
row_rest w = links_from (row_line w.table.now w.row) w.from

abbrev pub column_rest : Column → List Link
column_rest w = links_from (column_line w.table.now w.column) w.from
