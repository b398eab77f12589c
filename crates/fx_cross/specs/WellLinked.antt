-- What each sparse table keeps.
use Rattle.std.specs.Prelude.{◌≡◌, ℕ, ◌+◌, ◌-◌, ◌*◌, ◌<◌, ◌≤◌, List, length, ◌==◌, not}
use Rattle.std.specs.List.{count_by}
use Rattle.fx_nums.specs.Fraction.{zero_fraction}
use Rattle.fx_cross.specs.declared.cell.Cell.{Cell}
use Rattle.fx_cross.specs.declared.limits.TheConstants.{GREATEST_SIDE, GREATEST_ROOM}
use Rattle.fx_cross.specs.Table.{spot, IsNonzero}
use Rattle.fx_cross.specs.Cells.{row_of, column_of, right_of, down_of, coef_of}
use Rattle.fx_cross.specs.Lines.{AreLinked}

-- the cell that leads to the first of row l, and to the first of column l
abbrev pub head_of : ℕ → ℕ → ℕ
head_of room l = room + 1 + l

-- how long the lists are, and what the limits are
pub record AreSizes (rows columns room terms : ℕ) (places : List ℕ) (cells : List Cell) : Type 0 where
  pub rows_low : 1 ≤ rows
  pub rows_high : rows ≤ GREATEST_SIDE
  pub columns_low : 1 ≤ columns
  pub columns_high : columns ≤ GREATEST_SIDE
  pub room_low : 1 ≤ room
  pub room_high : room ≤ GREATEST_ROOM
  pub terms_high : terms ≤ room
  pub places_long : length places ≡ rows * columns
  pub cells_long : length cells ≡ room + 1 + GREATEST_SIDE

-- the cell at the room ends each line: it stands just past the last row and column, and has value 0
pub record IsEnd (rows columns room : ℕ) (cells : List Cell) : Type 0 where
  pub row : row_of cells room ≡ rows
  pub column : column_of cells room ≡ columns
  pub coef : coef_of cells room ≡ zero_fraction

-- p is a place below the room, of the cell of row i and column j, whose coefficient is not 0
pub record IsPlaced (room i j p : ℕ) (cells : List Cell) : Type 0 where
  pub below : p < room
  pub row : row_of cells p ≡ i
  pub column : column_of cells p ≡ j
  pub nonzero : IsNonzero (coef_of cells p)

-- p is freed: no entry has it, and r places are freed from it on
pub record IsFree (room p r : ℕ) (rank : ℕ → ℕ) (place : ℕ → ℕ → ℕ) : Type 0 where
  pub below : p < room
  pub unused : (i j : ℕ) → place i j ≡ p → ⊥
  pub ranked : rank p ≡ r

-- the freed places are a list of all that no entry has: each leads to the next
pub record AreFree (room terms free : ℕ) (rank next : ℕ → ℕ) (place : ℕ → ℕ → ℕ) : Type 0 where
  pub first : terms < room → IsFree room free (room - terms) rank place
  pub onward : (p r : ℕ) → IsFree room p r rank place → 1 < r → IsFree room (next p) (r - 1) rank place
  pub high : (p r : ℕ) → IsFree room p r rank place → r + terms ≤ room
  pub only : (p q r : ℕ) → IsFree room p r rank place → IsFree room q r rank place → p ≡ q

-- There are a list for each row, one for each column, and one of the freed places. Each entry other than 0
-- has a cell at a place of its own, which stands in the list of its row, in the list of its column, and in no
-- other; each place that no entry has stands in the freed list. The lists of rows and columns rise, and each
-- ends.
pub record IsWellLinked
    (rows columns room terms free : ℕ) (places : List ℕ) (cells : List Cell) : Type 0 where
  pub sizes : AreSizes rows columns room terms places cells
  pub end : IsEnd rows columns room cells
  pub placed : (i j : ℕ) → (spot rows columns room places i j ≡ room → ⊥) →
      IsPlaced room i j (spot rows columns room places i j) cells
  pub across :
      AreLinked room rows (head_of room) (column_of cells) (right_of cells) (spot rows columns room places)
  pub down :
      AreLinked room columns (head_of room) (row_of cells) (down_of cells)
      (λ j i. spot rows columns room places i j)
  pub freed :
      AreFree room terms free (down_of cells) (right_of cells) (spot rows columns room places)
  pub count : terms ≡ count_by (λ p. not (p == room)) places
