-- Cells in a list, read at any number.
use Rattle.std.specs.Prelude.{ℕ, List, map, slice_index_or}
use Rattle.fx_nums.specs.Fraction.{Fraction, zero_fraction}
use Rattle.fx_cross.specs.declared.cell.Cell.{Cell}
use Rattle.fx_cross.specs.Table.{Table}

-- what is read outside a list
abbrev pub no_cell : Cell
no_cell = record { row = 0; column = 0; right = 0; down = 0; coef = zero_fraction }

abbrev pub cell_of : List Cell → ℕ → Cell
cell_of cells p = slice_index_or cells p no_cell

abbrev pub row_of : List Cell → ℕ → ℕ
row_of cells p = (cell_of cells p).row

abbrev pub column_of : List Cell → ℕ → ℕ
column_of cells p = (cell_of cells p).column

abbrev pub right_of : List Cell → ℕ → ℕ
right_of cells p = (cell_of cells p).right

abbrev pub down_of : List Cell → ℕ → ℕ
down_of cells p = (cell_of cells p).down

unfoldable pub coef_of : List Cell → ℕ → Fraction
coef_of cells p = (cell_of cells p).coef

-- the table of places and their cells
abbrev pub table_of : ℕ → ℕ → ℕ → List ℕ → List Cell → Table
table_of rows columns room places cells = record {
  rows = rows;
  columns = columns;
  room = room;
  entries = map (coef_of cells) places;
  places = places;
}
