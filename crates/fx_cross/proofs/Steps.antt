-- The changes as the code makes them, at the value of a table.
use Rattle.std.proofs.Common.{◌⊎◌, inl, inr, ◌≡◌, ℕ, ◌+◌, ◌-◌, ◌*◌, ◌<◌, List, length, get_or, set, refl, sym}
use Rattle.std.proofs.Common.{◌∙◌, ap, subst, arith, unsigned_abs}
use Rattle.fx_nums.specs.Fraction.{Fraction, zero_fraction}
use Rattle.fx_cross.specs.declared.cell.Cell.{Cell}
use Rattle.fx_cross.specs.Table.{Table, spot, entry_at, place_at, nonzero_count, put, KeepsPlaces, IsZero}
use Rattle.fx_cross.specs.Cells.{row_of, column_of, right_of, down_of, coef_of, table_of}
use Rattle.fx_cross.specs.Lines.{IsLead}
use Rattle.fx_cross.specs.WellLinked.{IsWellLinked, IsPlaced, IsFree, head_of}
use Rattle.fx_cross.proofs.Spots.{spot_set_same, spot_set_other}
use Rattle.fx_cross.proofs.Splice.{lead_not_new, lead_low}
use Rattle.fx_cross.proofs.Writes.{IsCellSet, IsRightSet, IsDownSet, IsCoefSet, IsFreed, freed, cell_set}
use Rattle.fx_cross.proofs.Writes.{right_set, down_set, coef_set}
use Rattle.fx_cross.proofs.Facts.{place_low, place_read, read_low, row_inside, column_inside, cell_read}
use Rattle.fx_cross.proofs.Facts.{counted, lead_right, lead_down, entry_is}
use Rattle.fx_cross.proofs.Entries.{entries_put, is_put}
use Rattle.fx_cross.proofs.Put.{IsCellPut, cell_put, put_kept}
use Rattle.fx_cross.proofs.Take.{take_kept, change_kept}

-- ---- what is searched

-- what leads to a row, at a value and at what it keeps
left_inside : (rows columns room : ℕ) (places : List ℕ) (cells : List Cell) (t : Table) →
    table_of rows columns room places cells ≡ t →
    (i j q : ℕ) → (b : ℕ) × IsLead t.room (head_of t.room i) (place_at t i) j q b →
    (b : ℕ) × IsLead room (room + 1 + i) (spot rows columns room places i) j q b
left_inside rows columns room places cells t is i j q =
    subst (λ (u : Table). (b : ℕ) × IsLead u.room (head_of u.room i) (place_at u i) j q b →
    (b : ℕ) × IsLead room (room + 1 + i) (spot rows columns room places i) j q b) is (λ h. h)

pub left_lead : (rows columns room terms free : ℕ) (places : List ℕ) (cells : List Cell) (t : Table) →
    IsWellLinked rows columns room terms free places cells → table_of rows columns room places cells ≡ t →
    (xs : List ℕ) (i j q : ℕ) → i < t.rows → j < t.columns → xs ≡ places →
    (b : ℕ) × IsLead room (room + 1 + i) (λ m. get_or xs (i * columns + m * 1) room) j q b →
    (b : ℕ) × IsLead t.room (head_of t.room i) (place_at t i) j q b
left_lead rows columns room terms free places cells t kept is xs i j q hi hj e lead = (
  lead.0,
  subst (λ (u : Table). IsLead u.room (head_of u.room i) (place_at u i) j q lead.0) is
      (lead_right rows columns room terms free places cells kept i j q lead.0
      (row_inside rows columns room places cells t i is hi)
      (column_inside rows columns room places cells t j is hj)
      (subst (λ (ys : List ℕ).
      IsLead room (room + 1 + i) (λ m. get_or ys (i * columns + m * 1) room) j q lead.0) e lead.1)),
)

pub left_low : (rows columns room terms free : ℕ) (places : List ℕ) (cells : List Cell) (t : Table) →
    IsWellLinked rows columns room terms free places cells → table_of rows columns room places cells ≡ t →
    (i j q : ℕ) → i < t.rows → j < t.columns →
    (b : ℕ) × IsLead t.room (head_of t.room i) (place_at t i) j q b → q < length cells
left_low rows columns room terms free places cells t kept is i j q hi hj lead =
    let inside : i < rows = row_inside rows columns room places cells t i is hi in
    let found : (b : ℕ) × IsLead room (room + 1 + i) (spot rows columns room places i) j q b =
    left_inside rows columns room places cells t is i j q lead in
    omega (
      arith,
      kept.sizes,
      lead_low room i j q found.0 (spot rows columns room places) (λ m.
          place_low rows columns room terms free places cells kept i m) found.1,
    )

-- what leads to a column, at a value and at what it keeps
above_inside : (rows columns room : ℕ) (places : List ℕ) (cells : List Cell) (t : Table) →
    table_of rows columns room places cells ≡ t →
    (i j q : ℕ) → (b : ℕ) × IsLead t.room (head_of t.room j) (λ m. place_at t m j) i q b →
    (b : ℕ) × IsLead room (room + 1 + j) (λ m. spot rows columns room places m j) i q b
above_inside rows columns room places cells t is i j q =
    subst (λ (u : Table). (b : ℕ) × IsLead u.room (head_of u.room j) (λ m. place_at u m j) i q b →
    (b : ℕ) × IsLead room (room + 1 + j) (λ m. spot rows columns room places m j) i q b) is (λ h. h)

pub above_lead : (rows columns room terms free : ℕ) (places : List ℕ) (cells : List Cell) (t : Table) →
    IsWellLinked rows columns room terms free places cells → table_of rows columns room places cells ≡ t →
    (xs : List ℕ) (i j q : ℕ) → i < t.rows → j < t.columns → xs ≡ places →
    (b : ℕ) × IsLead room (room + 1 + j) (λ m. get_or xs (j + m * columns) room) i q b →
    (b : ℕ) × IsLead t.room (head_of t.room j) (λ m. place_at t m j) i q b
above_lead rows columns room terms free places cells t kept is xs i j q hi hj e lead = (
  lead.0,
  subst (λ (u : Table). IsLead u.room (head_of u.room j) (λ m. place_at u m j) i q lead.0) is
      (lead_down rows columns room terms free places cells kept i j q lead.0
      (row_inside rows columns room places cells t i is hi)
      (column_inside rows columns room places cells t j is hj)
      (subst (λ (ys : List ℕ). IsLead room (room + 1 + j) (λ m. get_or ys (j + m * columns) room) i q lead.0) e
      lead.1)),
)

pub above_low : (rows columns room terms free : ℕ) (places : List ℕ) (cells : List Cell) (t : Table) →
    IsWellLinked rows columns room terms free places cells → table_of rows columns room places cells ≡ t →
    (i j q : ℕ) → i < t.rows → j < t.columns →
    (b : ℕ) × IsLead t.room (head_of t.room j) (λ m. place_at t m j) i q b → q < length cells
above_low rows columns room terms free places cells t kept is i j q hi hj lead =
    let inside : j < columns = column_inside rows columns room places cells t j is hj in
    let found : (b : ℕ) × IsLead room (room + 1 + j) (λ m. spot rows columns room places m j) i q b =
    above_inside rows columns room places cells t is i j q lead in
    omega (
      arith,
      kept.sizes,
      lead_low room j i q found.0 (λ y x. spot rows columns room places x y) (λ m.
          place_low rows columns room terms free places cells kept m j) found.1,
    )

-- where the places of the other entries stay, and one entry is 0 before or after, each entry that is not 0 keeps its
-- place
places_kept : (t t' : Table) (i j : ℕ) → ((a b : ℕ) → (a ≡ i → b ≡ j → ⊥) → place_at t' a b ≡ place_at t a b) →
    (IsZero (entry_at t i j)) ⊎ (IsZero (entry_at t' i j)) → KeepsPlaces t t'
places_kept t t' i j others zero a b before after = others a b (never zero)
  where
    never : (IsZero (entry_at t i j)) ⊎ (IsZero (entry_at t' i j)) → a ≡ i → b ≡ j → ⊥
    never (inl z) x y = before (rw (x, y) z)
    never (inr z) x y = after (rw (x, y) z)

pub terms_low : (rows columns room terms free : ℕ) (places : List ℕ) (cells : List Cell) (t : Table) →
    IsWellLinked rows columns room terms free places cells → table_of rows columns room places cells ≡ t →
    nonzero_count t < t.room → terms < room
terms_low rows columns room terms free places cells t kept is =
    subst (λ (u : Table). nonzero_count u < u.room → terms < room) is (λ k.
    omega (arith, counted rows columns room terms free places cells kept))

-- the first free place
pub free_place : (rows columns room terms free : ℕ) (places : List ℕ) (cells : List Cell) (t : Table) →
    IsWellLinked rows columns room terms free places cells → table_of rows columns room places cells ≡ t →
    nonzero_count t < t.room → IsFree room free (room - terms) (down_of cells) (spot rows columns room places)
free_place rows columns room terms free places cells t kept is h =
    kept.freed.first (terms_low rows columns room terms free places cells t kept is h)

-- what a change leaves
pub record IsChanged (rows columns room terms free i j : ℕ) (c : Fraction) (places : List ℕ)
    (cells : List Cell) (t : Table) : Type 0 where
  pub kept : IsWellLinked rows columns room terms free places cells
  pub entries : entry_at (table_of rows columns room places cells) ≡ put i j c (entry_at t)
  pub stay : KeepsPlaces t (table_of rows columns room places cells)

-- ---- in

pub put_done : (rows columns room terms free : ℕ) (places : List ℕ) (cells : List Cell) (t : Table) →
    IsWellLinked rows columns room terms free places cells → table_of rows columns room places cells ≡ t →
    (i j left above : ℕ) (c : Fraction) (y2 y3 z1 z2 z3 : Cell) → i < t.rows → j < t.columns →
    place_at t i j ≡ t.room → nonzero_count t < t.room → (unsigned_abs c.num ≡ 0 → ⊥) →
    z1 ≡ get_or cells free z1 →
    (b : ℕ) × IsLead t.room (head_of t.room i) (place_at t i) j left b →
    (b : ℕ) × IsLead t.room (head_of t.room j) (λ m. place_at t m j) i above b →
    z2 ≡ get_or cells left z2 → z3 ≡ get_or cells above z3 →
    y2 ≡ get_or (set cells free (record { row = i; column = j; right = z2.right; down = z3.down; coef = c })) left y2 →
    y3 ≡ get_or (set (set cells free (record {
      row = i;
      column = j;
      right = z2.right;
      down = z3.down;
      coef =
          c;
    })) left (record y2 { right = free })) above y3 →
    IsChanged rows columns room (terms + 1) z1.right i j c (set places (i * columns + j) free)
    (set (set (set cells free (record { row = i; column = j; right = z2.right; down = z3.down; coef = c }))
    left (record y2 { right = free })) above (record y3 { down = free })) t
put_done rows columns room terms free places cells t kept is i j left above c y2 y3 z1 z2 z3 hi hj empty ht
    full r1 lead_left lead_above r2 r3 w2 w3 =
    record { kept = kept_after; entries = entries_after; stay = stay_after }
  where
    cells1 : List Cell
    cells1 = set cells free (record { row = i; column = j; right = z2.right; down = z3.down; coef = c })

    cells2 : List Cell
    cells2 = set cells1 left (record y2 { right = free })

    cells3 : List Cell
    cells3 = set cells2 above (record y3 { down = free })

    inside_i : i < rows
    inside_i = row_inside rows columns room places cells t i is hi

    inside_j : j < columns
    inside_j = column_inside rows columns room places cells t j is hj

    new : IsFree room free (room - terms) (down_of cells) (spot rows columns room places)
    new = free_place rows columns room terms free places cells t kept is ht

    found_left : (b : ℕ) × IsLead room (room + 1 + i) (spot rows columns room places i) j left b
    found_left = left_inside rows columns room places cells t is i j left lead_left

    found_above : (b : ℕ) × IsLead room (room + 1 + j) (λ m. spot rows columns room places m j) i above b
    found_above = above_inside rows columns room places cells t is i j above lead_above

    not_left : left ≡ free → ⊥
    not_left = lead_not_new room rows i j free left found_left.0 (spot rows columns room places) new.below
        new.unused found_left.1

    not_above : above ≡ free → ⊥
    not_above = lead_not_new room columns j i free above found_above.0 (λ y x.
        spot rows columns room places x y) new.below (λ y x. new.unused x y) found_above.1

    low_left : left < length cells
    low_left = left_low rows columns room terms free places cells t kept is i j left hi hj lead_left

    low_above : above < length cells
    low_above = above_low rows columns room terms free places cells t kept is i j above hi hj lead_above

    set1 : IsCellSet cells cells1 free (record { row = i; column = j; right = z2.right; down = z3.down; coef = c })
    set1 = cell_set cells free (record { row = i; column = j; right = z2.right; down = z3.down; coef = c })
        (omega (arith, kept.sizes, new.below))

    set2 : IsRightSet cells1 cells2 left free
    set2 = right_set cells1 left free y2 (omega (arith, set1.long, low_left)) w2

    set3 : IsDownSet cells2 cells3 above free
    set3 = down_set cells2 above free y3 (omega (arith, set1.long, set2.long, low_above)) w3

    written : IsCellPut i j free left above c cells cells3
    written = cell_put i j free left above z2.right z3.down c cells cells1 cells2 cells3 not_left not_above
        (ap (λ (y : Cell). y.right) (cell_read cells left z2 low_left r2))
        (ap (λ (y : Cell). y.down) (cell_read cells above z3 low_above r3)) set1 set2 set3

    empty_spot : spot rows columns room places i j ≡ room
    empty_spot = subst (λ (u : Table). place_at u i j ≡ u.room →
        spot rows columns room places i j ≡ room) is (λ h. h) empty

    kept_after : IsWellLinked rows columns room (terms + 1) z1.right (set places (i * columns + j) free) cells3
    kept_after = subst (λ (x : ℕ).
        IsWellLinked rows columns room (terms + 1) x (set places (i * columns + j) free) cells3)
        (sym (ap (λ (y : Cell). y.right) (cell_read cells free z1 (omega (arith, kept.sizes, new.below)) r1)))
        (put_kept rows columns room terms i j free left above found_left.0 found_above.0 c places cells cells3
        kept inside_i inside_j empty_spot
        (terms_low rows columns room terms free places cells t kept is ht) full found_left.1 found_above.1 written)

    entries_after : entry_at (table_of rows columns room (set places (i * columns + j) free) cells3)
        ≡ put i j c (entry_at t)
    entries_after = entries_put rows columns room i j free c places cells cells3 t inside_i inside_j
        kept.sizes.places_long kept.end.coef kept_after.end.coef written.coef_here
        (λ a b _. written.coef (spot rows columns room places a b) (new.unused a b)) is

    zero_before : IsZero (entry_at (table_of rows columns room places cells) i j)
    zero_before = ap (λ (f : Fraction). unsigned_abs f.num)
        (entry_is rows columns room places cells i j kept.end.coef ∙ ap (coef_of cells) empty_spot
        ∙ kept.end.coef)

    stay_after : KeepsPlaces t (table_of rows columns room (set places (i * columns + j) free) cells3)
    stay_after = subst (λ (u : Table).
        KeepsPlaces u (table_of rows columns room (set places (i * columns + j) free) cells3)) is
        (places_kept (table_of rows columns room places cells)
        (table_of rows columns room (set places (i * columns + j) free) cells3) i j (λ a b ne.
        spot_set_other rows columns room places i j free a b inside_j ne) (inl zero_before))

-- ---- out

pub full_spot : (rows columns room terms free : ℕ) (places : List ℕ) (cells : List Cell) (t : Table) →
    table_of rows columns room places cells ≡ t → (i j : ℕ) → (place_at t i j ≡ t.room → ⊥) →
    spot rows columns room places i j ≡ room → ⊥
full_spot rows columns room terms free places cells t is i j =
    subst (λ (u : Table). (place_at u i j ≡ u.room → ⊥) → spot rows columns room places i j ≡ room →
    ⊥) is (λ h. h)

pub take_done : (rows columns room terms free : ℕ) (places : List ℕ) (cells : List Cell) (t : Table) →
    IsWellLinked rows columns room terms free places cells → table_of rows columns room places cells ≡ t →
    (i j p x left above : ℕ) (y1 y2 y3 z2 z3 : Cell) → i < t.rows → j < t.columns → (place_at t i j ≡ t.room → ⊥) →
    x ≡ get_or places (i * columns + j) x → p ≡ x →
    (b : ℕ) × IsLead t.room (head_of t.room i) (place_at t i) j left b →
    (b : ℕ) × IsLead t.room (head_of t.room j) (λ m. place_at t m j) i above b →
    z2 ≡ get_or cells p z2 → z3 ≡ get_or cells p z3 →
    y1 ≡ get_or cells left y1 → y2 ≡ get_or (set cells left (record y1 { right = z2.right })) above y2 →
    y3 ≡ get_or (set (set cells left (record y1 { right = z2.right })) above (record y2 { down = z3.down })) p y3 →
    IsChanged rows columns room (terms - 1) p i j zero_fraction (set places (i * columns + j) room)
    (set (set (set cells left (record y1 { right = z2.right })) above (record y2 { down = z3.down })) p
    (record y3 { right = free; down = room - (terms - 1) })) t
take_done rows columns room terms free places cells t kept is i j p x left above y1 y2 y3 z2 z3 hi hj full read
    e lead_left lead_above r2 r3 w1 w2 w3 =
    record { kept = kept_after; entries = entries_after; stay = stay_after }
  where
    cells1 : List Cell
    cells1 = set cells left (record y1 { right = z2.right })

    cells2 : List Cell
    cells2 = set cells1 above (record y2 { down = z3.down })

    cells3 : List Cell
    cells3 = set cells2 p (record y3 { right = free; down = room - (terms - 1) })

    inside_i : i < rows
    inside_i = row_inside rows columns room places cells t i is hi

    inside_j : j < columns
    inside_j = column_inside rows columns room places cells t j is hj

    here : p ≡ spot rows columns room places i j
    here = place_read rows columns room terms free places cells t kept is i j x p hi hj read e

    not_end : p ≡ room → ⊥
    not_end h = full_spot rows columns room terms free places cells t is i j full (sym here ∙ h)

    low : p < length cells
    low = read_low rows columns room terms free places cells t kept is i j x p hi hj read e

    found_left : (b : ℕ) × IsLead room (room + 1 + i) (spot rows columns room places i) j left b
    found_left = left_inside rows columns room places cells t is i j left lead_left

    found_above : (b : ℕ) × IsLead room (room + 1 + j) (λ m. spot rows columns room places m j) i above b
    found_above = above_inside rows columns room places cells t is i j above lead_above

    set1 : IsRightSet cells cells1 left z2.right
    set1 = right_set cells left z2.right y1
        (left_low rows columns room terms free places cells t kept is i j left hi hj lead_left) w1

    set2 : IsDownSet cells1 cells2 above z3.down
    set2 = down_set cells1 above z3.down y2 (omega (
      arith,
      set1.long,
      above_low rows columns room terms free places cells t kept is i j above hi hj lead_above,
    )) w2

    set3 : IsFreed cells2 cells3 p free (room - (terms - 1))
    set3 = freed cells2 p free (room - (terms - 1)) y3 (omega (arith, set1.long, set2.long, low)) w3

    right_is : z2.right ≡ right_of cells p
    right_is = ap (λ (y : Cell). y.right) (cell_read cells p z2 low r2)

    down_is : z3.down ≡ down_of cells p
    down_is = ap (λ (y : Cell). y.down) (cell_read cells p z3 low r3)

    kept_after : IsWellLinked rows columns room (terms - 1) p (set places (i * columns + j) room) cells3
    kept_after = take_kept rows columns room terms free i j p left above found_left.0 found_above.0 places
        cells cells1 cells2 cells3 kept inside_i inside_j (sym here) not_end found_left.1 found_above.1
        (subst (λ (v : ℕ). IsRightSet cells cells1 left v) right_is set1)
        (subst (λ (v : ℕ). IsDownSet cells1 cells2 above v) down_is set2) set3

    entries_after : entry_at (table_of rows columns room (set places (i * columns + j) room) cells3)
        ≡ put i j zero_fraction (entry_at t)
    entries_after = entries_put rows columns room i j room zero_fraction places cells cells3 t inside_i
        inside_j kept.sizes.places_long kept.end.coef kept_after.end.coef kept_after.end.coef
        (λ a b _. set3.coef (spot rows columns room places a b) ∙ set2.coef (spot rows columns room places a b)
        ∙ set1.coef (spot rows columns room places a b)) is

    zero_after : IsZero (entry_at (table_of rows columns room (set places (i * columns + j) room) cells3) i j)
    zero_after = ap (λ (f : Fraction). unsigned_abs f.num)
        (entry_is rows columns room (set places (i * columns + j) room) cells3 i j kept_after.end.coef
        ∙ ap (coef_of cells3) (spot_set_same rows columns room places i j room inside_i inside_j
        kept.sizes.places_long) ∙ kept_after.end.coef)

    stay_after : KeepsPlaces t (table_of rows columns room (set places (i * columns + j) room) cells3)
    stay_after = subst (λ (u : Table).
        KeepsPlaces u (table_of rows columns room (set places (i * columns + j) room) cells3)) is
        (places_kept (table_of rows columns room places cells)
        (table_of rows columns room (set places (i * columns + j) room) cells3) i j (λ a b ne.
        spot_set_other rows columns room places i j room a b inside_j ne) (inr zero_after))

-- ---- another number

pub change_done : (rows columns room terms free : ℕ) (places : List ℕ) (cells : List Cell) (t : Table) →
    IsWellLinked rows columns room terms free places cells → table_of rows columns room places cells ≡ t →
    (i j p x : ℕ) (c : Fraction) (y : Cell) → i < t.rows → j < t.columns → (place_at t i j ≡ t.room → ⊥) →
    (unsigned_abs c.num ≡ 0 → ⊥) →
    x ≡ get_or places (i * columns + j) x → p ≡ x → y ≡ get_or cells p y →
    IsChanged rows columns room terms free i j c places (set cells p (record y { coef = c })) t
change_done rows columns room terms free places cells t kept is i j p x c y hi hj full nonzero read e w =
    record { kept = kept_after; entries = entries_after; stay = stay_after }
  where
    cells1 : List Cell
    cells1 = set cells p (record y { coef = c })

    here : p ≡ spot rows columns room places i j
    here = place_read rows columns room terms free places cells t kept is i j x p hi hj read e

    not_end : p ≡ room → ⊥
    not_end h = full_spot rows columns room terms free places cells t is i j full (sym here ∙ h)

    written : IsCoefSet cells cells1 p c
    written = coef_set cells p c y (read_low rows columns room terms free places cells t kept is i j x p hi hj read e) w

    kept_after : IsWellLinked rows columns room terms free places cells1
    kept_after = change_kept rows columns room terms free i j p c places cells cells1 kept (sym here) not_end
        nonzero written

    entry_after : (a b : ℕ) → entry_at (table_of rows columns room places cells1) a b
        ≡ coef_of cells1 (spot rows columns room places a b)
    entry_after a b = entry_is rows columns room places cells1 a b kept_after.end.coef

    at_p : IsPlaced room i j p cells
    at_p = subst (λ (q : ℕ). IsPlaced room i j q cells) (sym here) (kept.placed i j (λ h. not_end (here ∙ h)))

    apart : (a b : ℕ) → (a ≡ i → b ≡ j → ⊥) → spot rows columns room places a b ≡ p → ⊥
    apart a b ne h =
        let there : IsPlaced room a b (spot rows columns room places a b) cells =
        kept.placed a b (λ k. not_end (sym h ∙ k)) in
        ne (sym there.row ∙ ap (row_of cells) h ∙ at_p.row) (sym there.column ∙ ap (column_of cells) h ∙ at_p.column)

    entries_after : entry_at (table_of rows columns room places cells1) ≡ put i j c (entry_at t)
    entries_after = subst (λ (u : Table). entry_at (table_of rows columns room places cells1)
        ≡ put i j c (entry_at u)) is
        (is_put i j c _ _ (entry_after i j ∙ ap (coef_of cells1) (sym here) ∙ written.here)
        (λ a b ne. entry_after a b ∙ written.others (spot rows columns room places a b) (apart a b ne)
        ∙ sym (entry_is rows columns room places cells a b kept.end.coef)))

    stay_after : KeepsPlaces t (table_of rows columns room places cells1)
    stay_after = subst (λ (u : Table). KeepsPlaces u (table_of rows columns room places cells1)) is (λ a b _ _. refl)
