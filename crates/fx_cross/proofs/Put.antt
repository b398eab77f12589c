-- A number put in the place of a 0: the table stays kept.
use Rattle.std.proofs.Common.{◌≡◌, ℕ, ◌+◌, ◌-◌, ◌*◌, ◌<◌, List, length, set, sym, ◌∙◌, ap, subst, arith}
use Rattle.std.proofs.Common.{unsigned_abs, length-set}
use Rattle.fx_nums.specs.Fraction.{Fraction}
use Rattle.fx_cross.specs.declared.cell.Cell.{Cell}
use Rattle.fx_cross.specs.Table.{spot}
use Rattle.fx_cross.specs.Cells.{row_of, column_of, right_of, down_of, coef_of}
use Rattle.fx_cross.specs.Lines.{IsLead}
use Rattle.fx_cross.specs.WellLinked.{IsWellLinked, IsPlaced, IsFree}
use Rattle.fx_cross.proofs.Spots.{below_product, spot_inside, spot_set_same, spot_set_other}
use Rattle.fx_cross.proofs.Splice.{line_put_in, lead_not_new}
use Rattle.fx_cross.proofs.Writes.{IsCellSet, IsRightSet, IsDownSet}
use Rattle.fx_cross.proofs.Free.{free_put}
use Rattle.fx_cross.proofs.Facts.{keyed_right, keyed_down, put_right, put_down, count_more, SpotAfter, spot_after}
use Rattle.fx_cross.proofs.Facts.SpotAfter.{same, other}

-- what is written: a free cell, and the two that lead to it
pub record IsCellPut (i j p left above : ℕ) (c : Fraction) (cells cells' : List Cell) : Type 0 where
  pub long : length cells' ≡ length cells
  pub row_here : row_of cells' p ≡ i
  pub column_here : column_of cells' p ≡ j
  pub coef_here : coef_of cells' p ≡ c
  pub right_here : right_of cells' p ≡ right_of cells left
  pub down_here : down_of cells' p ≡ down_of cells above
  pub right_source : right_of cells' left ≡ p
  pub down_source : down_of cells' above ≡ p
  pub row : (x : ℕ) → (x ≡ p → ⊥) → row_of cells' x ≡ row_of cells x
  pub column : (x : ℕ) → (x ≡ p → ⊥) → column_of cells' x ≡ column_of cells x
  pub coef : (x : ℕ) → (x ≡ p → ⊥) → coef_of cells' x ≡ coef_of cells x
  pub right : (x : ℕ) → (x ≡ p → ⊥) → (x ≡ left → ⊥) → right_of cells' x ≡ right_of cells x
  pub down : (x : ℕ) → (x ≡ p → ⊥) → (x ≡ above → ⊥) → down_of cells' x ≡ down_of cells x

pub cell_put : (i j p left above right down : ℕ) (c : Fraction) (cells cells1 cells2 cells3 : List Cell) →
    (left ≡ p → ⊥) → (above ≡ p → ⊥) →
    right ≡ right_of cells left → down ≡ down_of cells above →
    IsCellSet cells cells1 p (record { row = i; column = j; right = right; down = down; coef = c }) →
    IsRightSet cells1 cells2 left p → IsDownSet cells2 cells3 above p → IsCellPut i j p left above c cells cells3
unfolding coef_of
cell_put i j p left above right down c cells cells1 cells2 cells3 nl na er ed w r d = record {
  long = d.long ∙ r.long ∙ w.long;
  row_here = d.row p ∙ r.row p ∙ ap (λ (y : Cell). y.row) w.here;
  column_here = d.column p ∙ r.column p ∙ ap (λ (y : Cell). y.column) w.here;
  coef_here = d.coef p ∙ r.coef p ∙ ap (λ (y : Cell). y.coef) w.here;
  right_here = d.right p ∙ r.others p (λ e. nl (sym e)) ∙ ap (λ (y : Cell). y.right) w.here ∙ er;
  down_here = d.others p (λ e. na (sym e)) ∙ r.down p ∙ ap (λ (y : Cell). y.down) w.here ∙ ed;
  right_source = d.right left ∙ r.here;
  down_source = d.here;
  row = λ x ne. d.row x ∙ r.row x ∙ ap (λ (y : Cell). y.row) (w.others x ne);
  column = λ x ne. d.column x ∙ r.column x ∙ ap (λ (y : Cell). y.column) (w.others x ne);
  coef = λ x ne. d.coef x ∙ r.coef x ∙ ap (λ (y : Cell). y.coef) (w.others x ne);
  right = λ x ne nq. d.right x ∙ r.others x nq ∙ ap (λ (y : Cell). y.right) (w.others x ne);
  down = λ x ne nq. d.others x nq ∙ r.down x ∙ ap (λ (y : Cell). y.down) (w.others x ne);
}

pub put_kept : (rows columns room terms i j p left above b d : ℕ) (c : Fraction) (places : List ℕ)
    (cells cells' : List Cell) →
    IsWellLinked rows columns room terms p places cells → i < rows → j < columns →
    spot rows columns room places i j ≡ room → terms < room → (unsigned_abs c.num ≡ 0 → ⊥) →
    IsLead room (room + 1 + i) (spot rows columns room places i) j left b →
    IsLead room (room + 1 + j) (λ m. spot rows columns room places m j) i above d →
    IsCellPut i j p left above c cells cells' →
    IsWellLinked rows columns room (terms + 1) (right_of cells p) (set places (i * columns + j) p) cells'
put_kept rows columns room terms i j p left above b d c places cells cells' kept hi hj empty ht full lead_left
    lead_above w = record {
      sizes = record {
        rows_low = kept.sizes.rows_low;
        rows_high = kept.sizes.rows_high;
        columns_low = kept.sizes.columns_low;
        columns_high = kept.sizes.columns_high;
        room_low = kept.sizes.room_low;
        room_high = kept.sizes.room_high;
        terms_high = omega arith;
        places_long = length-set places (i * columns + j) p ∙ kept.sizes.places_long;
        cells_long = w.long ∙ kept.sizes.cells_long;
      };
      end = record {
        row = w.row room not_end ∙ kept.end.row;
        column = w.column room not_end ∙ kept.end.column;
        coef = w.coef room not_end ∙ kept.end.coef;
      };
      placed = λ x y ne. placed_after x y ne (spot_after rows columns room i j p x y places hi hj kept.sizes.places_long);
      across = line_put_in room rows columns i j p left b (row_of cells) (column_of cells) (right_of cells)
          (column_of cells') (right_of cells') (spot rows columns room places)
          (spot rows columns room (set places (i * columns + j) p))
          kept.across (keyed_right rows columns room terms p places cells kept) hi hj kept.end.column empty
          new.below new.unused lead_left
          (put_right rows columns room places i j p hi hj kept.sizes.places_long)
          (record {
            key_here = w.column_here;
            key_others = w.column;
            next_here = w.right_here;
            next_source =
                w.right_source;
            next_others = w.right;
          });
      down = line_put_in room columns rows j i p above d (column_of cells) (row_of cells) (down_of cells)
          (row_of cells') (down_of cells') (λ y x. spot rows columns room places x y) (λ y x.
          spot rows columns room (set places (i * columns + j) p) x y)
          kept.down (keyed_down rows columns room terms p places cells kept) hj hi kept.end.row empty new.below
          (λ y x. new.unused x y) lead_above
          (put_down rows columns room places i j p hi hj kept.sizes.places_long)
          (record {
            key_here = w.row_here;
            key_others = w.row;
            next_here = w.down_here;
            next_source =
                w.down_source;
            next_others = w.down;
          });
      freed = free_put room terms i j p (down_of cells) (right_of cells) (down_of cells') (right_of cells')
          (spot rows columns room places) (spot rows columns room (set places (i * columns + j) p)) kept.freed ht
          empty
          (record {
            here = spot_set_same rows columns room places i j p hi hj kept.sizes.places_long;
            others =
                λ x y ne. spot_set_other rows columns room places i j p x y hj ne;
          })
          (record {
            ranks = λ x low unused ne.
                w.down x ne (λ e. lead_not_new room columns j i x above d (λ y x.
                spot rows columns room places x y) low (λ y z. unused z y) lead_above (sym e));
            nexts = λ x low unused ne.
                w.right x ne (λ e. lead_not_new room rows i j x left b (spot rows columns room places) low unused
                lead_left (sym e));
          });
      count = omega (
        arith,
        kept.count,
        count_more room (i * columns + j) p places inside (sym (spot_inside rows columns room places i j hi hj)
            ∙ empty) not_new_end,
      );
    }
  where
    new : IsFree room p (room - terms) (down_of cells) (spot rows columns room places)
    new = kept.freed.first ht

    inside : i * columns + j < length places
    inside = below_product rows columns i j (length places) hi hj kept.sizes.places_long

    not_end : room ≡ p → ⊥
    not_end e = omega (arith, new.below)

    not_new_end : p ≡ room → ⊥
    not_new_end e = omega (arith, new.below)

    placed_after : (x y : ℕ) → (spot rows columns room (set places (i * columns + j) p) x y ≡ room → ⊥) →
        SpotAfter rows columns room i j p x y places (set places (i * columns + j) p) →
        IsPlaced room x y (spot rows columns room (set places (i * columns + j) p) x y) cells'
    placed_after x y ne (same ex ey e) = subst (λ (q : ℕ). IsPlaced room x y q cells') (sym e) (record {
      below = new.below;
      row = w.row_here ∙ sym ex;
      column = w.column_here ∙ sym ey;
      nonzero = λ z. full (sym (ap (λ (f : Fraction). unsigned_abs f.num) w.coef_here) ∙ z);
    })
    placed_after x y ne (other _ e) =
        let old : IsPlaced room x y (spot rows columns room places x y) cells = kept.placed x y (λ h. ne (e ∙ h)) in
        let kept_apart : spot rows columns room places x y ≡ p → ⊥ = new.unused x y in
        subst (λ (q : ℕ). IsPlaced room x y q cells') (sym e) (record {
          below = old.below;
          row = w.row (spot rows columns room places x y) kept_apart ∙ old.row;
          column = w.column (spot rows columns room places x y) kept_apart ∙ old.column;
          nonzero = λ z. old.nonzero
              (sym (ap (λ (f : Fraction). unsigned_abs f.num)
              (w.coef (spot rows columns room places x y) kept_apart)) ∙ z);
        })
