-- A number taken away: the table stays kept.
use Rattle.std.proofs.Common.{◌≡◌, ℕ, ◌+◌, ◌-◌, ◌*◌, ◌<◌, ◌≤◌, ◌⊎◌, List, length, set, refl, sym, ◌∙◌, ap}
use Rattle.std.proofs.Common.{subst, inl, inr, arith, unsigned_abs, not, ◌==◌, length-set}
use Rattle.std.specs.List.{count_by}
use Rattle.std.proofs.lemmas.Bool.{cases_eq}
use Rattle.fx_nums.specs.Fraction.{Fraction}
use Rattle.fx_cross.specs.declared.cell.Cell.{Cell}
use Rattle.fx_cross.specs.Table.{spot}
use Rattle.fx_cross.specs.Cells.{row_of, column_of, right_of, down_of, coef_of}
use Rattle.fx_cross.specs.Lines.{IsLead}
use Rattle.fx_cross.specs.WellLinked.{IsWellLinked, IsPlaced, IsFree, head_of}
use Rattle.fx_cross.proofs.Spots.{below_product, spot_inside, spot_set_same, spot_set_other}
use Rattle.fx_cross.proofs.Splice.{line_put_out, line_same, lead_apart, lead_not_new}
use Rattle.fx_cross.proofs.Writes.{IsRightSet, IsDownSet, IsCoefSet, IsFreed}
use Rattle.fx_cross.proofs.Free.{free_take}
use Rattle.fx_cross.proofs.Facts.{keyed_right, keyed_down, put_right, put_down, count_less, SpotAfter, spot_after}
use Rattle.fx_cross.proofs.Facts.SpotAfter.{same, other}

-- where some entry has a place there is an entry
pub some_terms : (rows columns room terms free : ℕ) (places : List ℕ) (cells : List Cell) →
    IsWellLinked rows columns room terms free places cells → (i j : ℕ) → i < rows → j < columns →
    (spot rows columns room places i j ≡ room → ⊥) → 1 ≤ terms
some_terms rows columns room terms free places cells kept i j hi hj full =
    let inside : i * columns + j < length places =
    below_product rows columns i j (length places) hi hj kept.sizes.places_long in
    omega (
      arith,
      kept.count,
      count_less room (i * columns + j) places inside (λ e.
          full (spot_inside rows columns room places i j hi hj ∙ e)),
    )

pub take_kept : (rows columns room terms free i j p left above b d : ℕ) (places : List ℕ)
    (cells cells1 cells2 cells3 : List Cell) →
    IsWellLinked rows columns room terms free places cells → i < rows → j < columns →
    spot rows columns room places i j ≡ p → (p ≡ room → ⊥) →
    IsLead room (room + 1 + i) (spot rows columns room places i) j left b →
    IsLead room (room + 1 + j) (λ m. spot rows columns room places m j) i above d →
    IsRightSet cells cells1 left (right_of cells p) → IsDownSet cells1 cells2 above (down_of cells p) →
    IsFreed cells2 cells3 p free (room - (terms - 1)) →
    IsWellLinked rows columns room (terms - 1) p (set places (i * columns + j) room) cells3
take_kept rows columns room terms free i j p left above b d places cells cells1 cells2 cells3 kept hi hj here
    full lead_left lead_above w v f = record {
      sizes = record {
        rows_low = kept.sizes.rows_low;
        rows_high = kept.sizes.rows_high;
        columns_low = kept.sizes.columns_low;
        columns_high = kept.sizes.columns_high;
        room_low = kept.sizes.room_low;
        room_high = kept.sizes.room_high;
        terms_high = omega (arith, kept.sizes.terms_high);
        places_long = length-set places (i * columns + j) room ∙ kept.sizes.places_long;
        cells_long = f.long ∙ v.long ∙ w.long ∙ kept.sizes.cells_long;
      };
      end = record {
        row = row room ∙ kept.end.row;
        column = column room ∙ kept.end.column;
        coef = coef room ∙ kept.end.coef;
      };
      placed = λ x y ne. placed_after x y ne
          (spot_after rows columns room i j room x y places hi hj kept.sizes.places_long);
      across = line_same room rows (head_of room) (column_of cells) (right_of cells3) (column_of cells3)
          (right_of cells3) (spot rows columns room (set places (i * columns + j) room))
          (line_put_out room rows i j p left b (row_of cells) (column_of cells) (right_of cells) (right_of cells3)
          (spot rows columns room places) (spot rows columns room (set places (i * columns + j) room))
          kept.across (keyed_right rows columns room terms free places cells kept) hi here full lead_left
          (put_right rows columns room places i j room hi hj kept.sizes.places_long)
          (record {
            next_source = f.right left not_left ∙ v.right left ∙ w.here;
            next_others =
                λ x np nq. f.right x np ∙ v.right x ∙ w.others x nq;
          })) column (λ _. refl);
      down = line_same room columns (head_of room) (row_of cells) (down_of cells3) (row_of cells3) (down_of cells3)
          (λ y x. spot rows columns room (set places (i * columns + j) room) x y)
          (line_put_out room columns j i p above d (column_of cells) (row_of cells) (down_of cells)
          (down_of cells3) (λ y x. spot rows columns room places x y) (λ y x.
          spot rows columns room (set places (i * columns + j) room) x y)
          kept.down (keyed_down rows columns room terms free places cells kept) hj here full lead_above
          (put_down rows columns room places i j room hi hj kept.sizes.places_long)
          (record {
            next_source = f.down above not_above ∙ v.here;
            next_others =
                λ x np nq. f.down x np ∙ v.others x nq ∙ w.down x;
          })) row (λ _. refl);
      freed = free_take room terms free i j p (down_of cells) (right_of cells) (down_of cells3) (right_of cells3)
          (spot rows columns room places) (spot rows columns room (set places (i * columns + j) room))
          kept.freed some kept.sizes.terms_high gone.below alone here
          (record {
            here = spot_set_same rows columns room places i j room hi hj kept.sizes.places_long;
            others =
                λ x y ne. spot_set_other rows columns room places i j room x y hj ne;
          }) f.down_here f.right_here
          (record {
            ranks = λ x low unused ne.
                f.down x ne ∙ v.others x (λ e.
                lead_not_new room columns j i x above d (λ y x. spot rows columns room places x y) low (λ y z.
                unused z y) lead_above (sym e)) ∙ w.down x;
            nexts = λ x low unused ne. f.right x ne ∙ v.right x
                ∙ w.others x (λ e. lead_not_new room rows i j x left b (spot rows columns room places) low unused
                lead_left (sym e));
          });
      count = omega (arith, kept.count, fewer);
    }
  where
    gone : IsPlaced room i j p cells
    gone = subst (λ (q : ℕ). IsPlaced room i j q cells) here (kept.placed i j (λ e. full (sym here ∙ e)))

    not_left : left ≡ p → ⊥
    not_left = lead_apart room rows i j p left b (row_of cells) (column_of cells)
        (spot rows columns room places) (keyed_right rows columns room terms free places cells kept) here full
        lead_left

    not_above : above ≡ p → ⊥
    not_above = lead_apart room columns j i p above d (column_of cells) (row_of cells) (λ y x.
        spot rows columns room places x y) (keyed_down rows columns room terms free places cells kept) here full
        lead_above

    fewer : count_by (λ p. not (p == room)) (set places (i * columns + j) room) + 1
        ≡ count_by (λ p. not (p == room)) places
    fewer = count_less room (i * columns + j) places
        (below_product rows columns i j (length places) hi hj kept.sizes.places_long) (λ e.
        full (sym here ∙ spot_inside rows columns room places i j hi hj ∙ e))

    some : 1 ≤ terms
    some = omega (arith, kept.count, fewer)

    alone : (x y : ℕ) → spot rows columns room places x y ≡ p → (x ≡ i) × (y ≡ j)
    alone x y e =
        let there : IsPlaced room x y (spot rows columns room places x y) cells =
        kept.placed x y (λ z. full (sym e ∙ z)) in
        (sym there.row ∙ ap (row_of cells) e ∙ gone.row, sym there.column ∙ ap (column_of cells) e ∙ gone.column)

    row : (x : ℕ) → row_of cells3 x ≡ row_of cells x
    row x = f.row x ∙ v.row x ∙ w.row x

    column : (x : ℕ) → column_of cells3 x ≡ column_of cells x
    column x = f.column x ∙ v.column x ∙ w.column x

    coef : (x : ℕ) → coef_of cells3 x ≡ coef_of cells x
    coef x = f.coef x ∙ v.coef x ∙ w.coef x

    placed_after : (x y : ℕ) → (spot rows columns room (set places (i * columns + j) room) x y ≡ room → ⊥) →
        SpotAfter rows columns room i j room x y places (set places (i * columns + j) room) →
        IsPlaced room x y (spot rows columns room (set places (i * columns + j) room) x y) cells3
    placed_after x y ne (same ex ey e) = absurd (ne e)
    placed_after x y ne (other _ e) =
        let old : IsPlaced room x y (spot rows columns room places x y) cells = kept.placed x y (λ h. ne (e ∙ h)) in
        subst (λ (q : ℕ). IsPlaced room x y q cells3) (sym e) (record {
          below = old.below;
          row = row (spot rows columns room places x y) ∙ old.row;
          column = column (spot rows columns room places x y) ∙ old.column;
          nonzero = λ z. old.nonzero
              (sym (ap (λ (f : Fraction). unsigned_abs f.num) (coef (spot rows columns room places x y))) ∙ z);
        })

-- a number other than 0 in the place of another
pub change_kept : (rows columns room terms free i j p : ℕ) (c : Fraction) (places : List ℕ) (cells cells' : List Cell) →
    IsWellLinked rows columns room terms free places cells → spot rows columns room places i j ≡ p →
    (p ≡ room → ⊥) → (unsigned_abs c.num ≡ 0 → ⊥) →
    IsCoefSet cells cells' p c → IsWellLinked rows columns room terms free places cells'
change_kept rows columns room terms free i j p c places cells cells' kept here full nonzero w = record {
  sizes = record {
    rows_low = kept.sizes.rows_low;
    rows_high = kept.sizes.rows_high;
    columns_low = kept.sizes.columns_low;
    columns_high = kept.sizes.columns_high;
    room_low = kept.sizes.room_low;
    room_high = kept.sizes.room_high;
    terms_high = kept.sizes.terms_high;
    places_long = kept.sizes.places_long;
    cells_long = w.long ∙ kept.sizes.cells_long;
  };
  end = record {
    row = w.row room ∙ kept.end.row;
    column = w.column room ∙ kept.end.column;
    coef = w.others room (λ e. full (sym e)) ∙ kept.end.coef;
  };
  placed = λ x y ne. let old : IsPlaced room x y (spot rows columns room places x y) cells =
      kept.placed x y ne in record {
        below = old.below;
        row = w.row (spot rows columns room places x y) ∙ old.row;
        column = w.column (spot rows columns room places x y) ∙ old.column;
        nonzero = λ z. by_place x y old z (cases_eq (spot rows columns room places x y) p);
      };
  across = line_same room rows (head_of room) (column_of cells) (right_of cells) (column_of cells')
      (right_of cells') (spot rows columns room places) kept.across w.column w.right;
  down = line_same room columns (head_of room) (row_of cells) (down_of cells) (row_of cells') (down_of cells')
      (λ y x. spot rows columns room places x y) kept.down w.row w.down;
  freed = record {
    first = λ h. again free (room - terms) (kept.freed.first h);
    onward = λ q r s h. subst (λ (x : ℕ).
        IsFree room x (r - 1) (down_of cells') (spot rows columns room places)) (sym (w.right q))
        (again (right_of cells q) (r - 1) (kept.freed.onward q r (back q r s) h));
    high = λ q r s. kept.freed.high q r (back q r s);
    only = λ q s r x y. kept.freed.only q s r (back q r x) (back s r y);
  };
  count = kept.count;
}
  where
    again : (q r : ℕ) → IsFree room q r (down_of cells) (spot rows columns room places) →
        IsFree room q r (down_of cells') (spot rows columns room places)
    again q r s = record { below = s.below; unused = s.unused; ranked = w.down q ∙ s.ranked }

    back : (q r : ℕ) → IsFree room q r (down_of cells') (spot rows columns room places) →
        IsFree room q r (down_of cells) (spot rows columns room places)
    back q r s = record { below = s.below; unused = s.unused; ranked = sym (w.down q) ∙ s.ranked }

    by_place : (x y : ℕ) → IsPlaced room x y (spot rows columns room places x y) cells →
        unsigned_abs (coef_of cells' (spot rows columns room places x y)).num ≡ 0 →
        (spot rows columns room places x y ≡ p) ⊎ (spot rows columns room places x y ≡ p → ⊥) → ⊥
    by_place x y old z (inl e) =
        nonzero (sym (ap (λ (f : Fraction). unsigned_abs f.num) (ap (coef_of cells') e ∙ w.here)) ∙ z)
    by_place x y old z (inr ne) =
        old.nonzero (sym (ap (λ (f : Fraction). unsigned_abs f.num)
        (w.others (spot rows columns room places x y) ne)) ∙ z)
