-- What a write to a cell changes.
use Rattle.std.proofs.Common.{◌≡◌, ℕ, ◌<◌, ◌⊎◌, List, length, get_or, set, ◌∙◌, ap, inl, inr, get_or-set_same}
use Rattle.std.proofs.Common.{get_or-set_other, length-set}
use Rattle.std.proofs.lemmas.Bool.{cases_eq}
use Rattle.std.proofs.lemmas.List.{get_or_read}
use Rattle.fx_nums.specs.Fraction.{Fraction}
use Rattle.fx_cross.specs.declared.cell.Cell.{Cell}
use Rattle.fx_cross.specs.Cells.{no_cell, cell_of, row_of, column_of, right_of, down_of, coef_of}

-- one cell is written
pub record IsCellSet (cells cells' : List Cell) (p : ℕ) (y : Cell) : Type 0 where
  pub long : length cells' ≡ length cells
  pub here : cell_of cells' p ≡ y
  pub others : (x : ℕ) → (x ≡ p → ⊥) → cell_of cells' x ≡ cell_of cells x

pub cell_set : (cells : List Cell) (p : ℕ) (y : Cell) → p < length cells → IsCellSet cells (set cells p y) p y
cell_set cells p y h = record {
  long = length-set cells p y;
  here = get_or-set_same cells p y no_cell h;
  others = λ x ne. get_or-set_other cells p x y no_cell ne;
}

-- where each cell is another but for one field
field_kept : {A : Type 0} → (f : Cell → A) (cells cells' : List Cell) (p : ℕ) (y : Cell) →
    IsCellSet cells cells' p y → f y ≡ f (cell_of cells p) → (x : ℕ) →
    f (cell_of cells' x) ≡ f (cell_of cells x)
field_kept f cells cells' p y w e x = by_place (cases_eq x p)
  where
    by_place : (x ≡ p) ⊎ (x ≡ p → ⊥) → f (cell_of cells' x) ≡ f (cell_of cells x)
    by_place (inl h) = rw h (ap f w.here ∙ e)
    by_place (inr ne) = ap f (w.others x ne)

-- what the cell at q leads to along its row is v
pub record IsRightSet (cells cells' : List Cell) (q v : ℕ) : Type 0 where
  pub long : length cells' ≡ length cells
  pub here : right_of cells' q ≡ v
  pub others : (x : ℕ) → (x ≡ q → ⊥) → right_of cells' x ≡ right_of cells x
  pub row : (x : ℕ) → row_of cells' x ≡ row_of cells x
  pub column : (x : ℕ) → column_of cells' x ≡ column_of cells x
  pub down : (x : ℕ) → down_of cells' x ≡ down_of cells x
  pub coef : (x : ℕ) → coef_of cells' x ≡ coef_of cells x

pub right_set : (cells : List Cell) (q v : ℕ) (y : Cell) → q < length cells → y ≡ get_or cells q y →
    IsRightSet cells (set cells q (record y { right = v })) q v
unfolding coef_of
right_set cells q v y h read =
    let w : IsCellSet cells (set cells q (record y { right = v })) q (record y { right = v }) =
    cell_set cells q (record y { right = v }) h in
    let e : y ≡ cell_of cells q = get_or_read cells q y h read no_cell in record {
      long = w.long;
      here = ap (λ (c : Cell). c.right) w.here;
      others = λ x ne. ap (λ (c : Cell). c.right) (w.others x ne);
      row = field_kept (λ (c : Cell). c.row) cells _ q _ w (ap (λ (c : Cell). c.row) e);
      column = field_kept (λ (c : Cell). c.column) cells _ q _ w (ap (λ (c : Cell). c.column) e);
      down = field_kept (λ (c : Cell). c.down) cells _ q _ w (ap (λ (c : Cell). c.down) e);
      coef = field_kept (λ (c : Cell). c.coef) cells _ q _ w (ap (λ (c : Cell). c.coef) e);
    }

-- what the cell at q leads to down its column is v
pub record IsDownSet (cells cells' : List Cell) (q v : ℕ) : Type 0 where
  pub long : length cells' ≡ length cells
  pub here : down_of cells' q ≡ v
  pub others : (x : ℕ) → (x ≡ q → ⊥) → down_of cells' x ≡ down_of cells x
  pub row : (x : ℕ) → row_of cells' x ≡ row_of cells x
  pub column : (x : ℕ) → column_of cells' x ≡ column_of cells x
  pub right : (x : ℕ) → right_of cells' x ≡ right_of cells x
  pub coef : (x : ℕ) → coef_of cells' x ≡ coef_of cells x

pub down_set : (cells : List Cell) (q v : ℕ) (y : Cell) → q < length cells → y ≡ get_or cells q y →
    IsDownSet cells (set cells q (record y { down = v })) q v
unfolding coef_of
down_set cells q v y h read =
    let w : IsCellSet cells (set cells q (record y { down = v })) q (record y { down = v }) =
    cell_set cells q (record y { down = v }) h in
    let e : y ≡ cell_of cells q = get_or_read cells q y h read no_cell in record {
      long = w.long;
      here = ap (λ (c : Cell). c.down) w.here;
      others = λ x ne. ap (λ (c : Cell). c.down) (w.others x ne);
      row = field_kept (λ (c : Cell). c.row) cells _ q _ w (ap (λ (c : Cell). c.row) e);
      column = field_kept (λ (c : Cell). c.column) cells _ q _ w (ap (λ (c : Cell). c.column) e);
      right = field_kept (λ (c : Cell). c.right) cells _ q _ w (ap (λ (c : Cell). c.right) e);
      coef = field_kept (λ (c : Cell). c.coef) cells _ q _ w (ap (λ (c : Cell). c.coef) e);
    }

-- the fraction of the cell at p is v
pub record IsCoefSet (cells cells' : List Cell) (p : ℕ) (v : Fraction) : Type 0 where
  pub long : length cells' ≡ length cells
  pub here : coef_of cells' p ≡ v
  pub others : (x : ℕ) → (x ≡ p → ⊥) → coef_of cells' x ≡ coef_of cells x
  pub row : (x : ℕ) → row_of cells' x ≡ row_of cells x
  pub column : (x : ℕ) → column_of cells' x ≡ column_of cells x
  pub right : (x : ℕ) → right_of cells' x ≡ right_of cells x
  pub down : (x : ℕ) → down_of cells' x ≡ down_of cells x

pub coef_set : (cells : List Cell) (p : ℕ) (v : Fraction) (y : Cell) → p < length cells →
    y ≡ get_or cells p y → IsCoefSet cells (set cells p (record y { coef = v })) p v
unfolding coef_of
coef_set cells p v y h read =
    let w : IsCellSet cells (set cells p (record y { coef = v })) p (record y { coef = v }) =
    cell_set cells p (record y { coef = v }) h in
    let e : y ≡ cell_of cells p = get_or_read cells p y h read no_cell in record {
      long = w.long;
      here = ap (λ (c : Cell). c.coef) w.here;
      others = λ x ne. ap (λ (c : Cell). c.coef) (w.others x ne);
      row = field_kept (λ (c : Cell). c.row) cells _ p _ w (ap (λ (c : Cell). c.row) e);
      column = field_kept (λ (c : Cell). c.column) cells _ p _ w (ap (λ (c : Cell). c.column) e);
      right = field_kept (λ (c : Cell). c.right) cells _ p _ w (ap (λ (c : Cell). c.right) e);
      down = field_kept (λ (c : Cell). c.down) cells _ p _ w (ap (λ (c : Cell). c.down) e);
    }

-- the cell at p is free
pub record IsFreed (cells cells' : List Cell) (p free rank : ℕ) : Type 0 where
  pub long : length cells' ≡ length cells
  pub right_here : right_of cells' p ≡ free
  pub down_here : down_of cells' p ≡ rank
  pub right : (x : ℕ) → (x ≡ p → ⊥) → right_of cells' x ≡ right_of cells x
  pub down : (x : ℕ) → (x ≡ p → ⊥) → down_of cells' x ≡ down_of cells x
  pub row : (x : ℕ) → row_of cells' x ≡ row_of cells x
  pub column : (x : ℕ) → column_of cells' x ≡ column_of cells x
  pub coef : (x : ℕ) → coef_of cells' x ≡ coef_of cells x

pub freed : (cells : List Cell) (p free rank : ℕ) (y : Cell) → p < length cells → y ≡ get_or cells p y →
    IsFreed cells (set cells p (record y { right = free; down = rank })) p free rank
unfolding coef_of
freed cells p free rank y h read =
    let w : IsCellSet cells (set cells p (record y { right = free; down = rank })) p
    (record y { right = free; down = rank }) = cell_set cells p (record y { right = free; down = rank }) h in
    let e : y ≡ cell_of cells p = get_or_read cells p y h read no_cell in record {
      long = w.long;
      right_here = ap (λ (c : Cell). c.right) w.here;
      down_here = ap (λ (c : Cell). c.down) w.here;
      right = λ x ne. ap (λ (c : Cell). c.right) (w.others x ne);
      down = λ x ne. ap (λ (c : Cell). c.down) (w.others x ne);
      row = field_kept (λ (c : Cell). c.row) cells _ p _ w (ap (λ (c : Cell). c.row) e);
      column = field_kept (λ (c : Cell). c.column) cells _ p _ w (ap (λ (c : Cell). c.column) e);
      coef = field_kept (λ (c : Cell). c.coef) cells _ p _ w (ap (λ (c : Cell). c.coef) e);
    }
