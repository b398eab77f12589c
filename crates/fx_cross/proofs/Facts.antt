-- What is known of a table that is kept.
use Rattle.std.proofs.Common.{◌≡◌, ℕ, ◌+◌, ◌*◌, ◌<◌, ◌≤◌, ◌⊎◌, List, [], ◌∷◌, length, get_or, set, map, refl}
use Rattle.std.proofs.Common.{sym, ◌∙◌, ap, subst, inl, inr, arith, Bool, cond, not, ◌==◌, ◌/◌, ◌%◌}
use Rattle.std.proofs.Common.{unsigned_abs, suc, length-set}
use Rattle.std.specs.List.{count_by}
use Rattle.std.proofs.lemmas.Bool.{cases_eq, cases_lt, eq-eqb, ne_eqb}
use Rattle.std.proofs.lemmas.List.{get_or_read, length-map}
use Rattle.std.proofs.lemmas.List.Sums.{sum_by-cons, sum_by-set, count_by-le-length}
use Rattle.fx_nums.specs.Fraction.{Fraction, zero_fraction}
use Rattle.fx_cross.specs.declared.cell.Cell.{Cell}
use Rattle.fx_cross.specs.Table.{Table, spot, entry_at, place_at, nonzero_count, HasPlaces}
use Rattle.fx_cross.specs.Walks.{Line, row_line, column_line, link_at, IsFirstFrom, AreZeroFrom}
use Rattle.fx_cross.specs.Cells.{no_cell, cell_of, row_of, column_of, right_of, down_of, coef_of, table_of}
use Rattle.fx_cross.specs.Lines.{IsFirst, source, IsLead}
use Rattle.fx_cross.specs.WellLinked.{IsWellLinked, IsPlaced, head_of}
use Rattle.std.proofs.lemmas.Nat.{div-add-mod', div_below}
use Rattle.fx_cross.proofs.Spots.{below_product, spot_outside, spot_inside, spot_map, spot_set_same, spot_set_other}
use Rattle.fx_cross.proofs.Counts.{count_by_rows}
use Rattle.fx_cross.proofs.Splice.{IsKeyed, IsPut}

-- the fractions of the table are those of the cells at the places
pub entry_is : (rows columns room : ℕ) (places : List ℕ) (cells : List Cell) (i j : ℕ) →
    coef_of cells room ≡ zero_fraction →
    entry_at (table_of rows columns room places cells) i j ≡ coef_of cells (spot rows columns room places i j)
entry_is rows columns room places cells i j e =
    subst (λ (z : Fraction). spot rows columns z (map (coef_of cells) places) i j
    ≡ coef_of cells (spot rows columns room places i j)) e
    (spot_map rows columns (coef_of cells) room places i j)

pub place_low : (rows columns room terms free : ℕ) (places : List ℕ) (cells : List Cell) →
    IsWellLinked rows columns room terms free places cells → (i j : ℕ) →
    spot rows columns room places i j ≤ room
place_low rows columns room terms free places cells kept i j =
    by_place (cases_eq (spot rows columns room places i j) room)
  where
    by_place : (spot rows columns room places i j ≡ room) ⊎ (spot rows columns room places i j ≡ room → ⊥) →
        spot rows columns room places i j ≤ room
    by_place (inl e) = omega arith
    by_place (inr ne) = let below : spot rows columns room places i j < room = (kept.placed i j ne).below in omega arith

-- what is read of the places
pub index_read : (rows columns room terms free : ℕ) (places : List ℕ) (cells : List Cell) →
    IsWellLinked rows columns room terms free places cells → (i j x : ℕ) → i < rows → j < columns →
    x ≡ get_or places (i * columns + j) x → x ≡ spot rows columns room places i j
index_read rows columns room terms free places cells kept i j x hi hj read =
    get_or_read places (i * columns + j) x
    (below_product rows columns i j (length places) hi hj kept.sizes.places_long) read room
    ∙ sym (spot_inside rows columns room places i j hi hj)

-- what is read of the cells
pub cell_read : (cells : List Cell) (p : ℕ) (y : Cell) → p < length cells → y ≡ get_or cells p y → y ≡ cell_of cells p
cell_read cells p y h read = get_or_read cells p y h read no_cell

-- ---- the laws of the value

-- where the test of each mapped element is another test of the element, the counts are the same
count_map : {A B : Type 0} → (f : A → B) (q : B → Bool) (r : A → Bool) (xs : List A) (d : A) →
    ((k : ℕ) → k < length xs → q (f (get_or xs k d)) ≡ r (get_or xs k d)) →
    count_by q (map f xs) ≡ count_by r xs
count_map f q r [] d same = refl
count_map f q r (x ∷ xs) d same =
    let here : q (f x) ≡ r x = same 0 (omega arith) in
    let rest : count_by q (map f xs) ≡ count_by r xs = count_map f q r xs d (λ k h. same (suc k) (omega arith)) in
    sum_by-cons (λ y. cond (q y) 1 0) (f x) (map f xs)
    ∙ ap (λ (b : Bool). cond b 1 0 + count_by q (map f xs)) here ∙ ap (λ (n : ℕ). cond (r x) 1 0 + n) rest
    ∙ sym (sum_by-cons (λ y. cond (r y) 1 0) x xs)

pub counted : (rows columns room terms free : ℕ) (places : List ℕ) (cells : List Cell) →
    IsWellLinked rows columns room terms free places cells →
    terms ≡ nonzero_count (table_of rows columns room places cells)
counted rows columns room terms free places cells kept =
    kept.count ∙ sym (count_map (coef_of cells) (λ c. not (unsigned_abs c.num == 0)) (λ p.
    not (p == room)) places room each)
  where
    by_place : (p : ℕ) → (p ≡ room) ⊎ (p ≡ room → ⊥) →
        ((p ≡ room → ⊥) → unsigned_abs (coef_of cells p).num ≡ 0 → ⊥) →
        not (unsigned_abs (coef_of cells p).num == 0) ≡ not (p == room)
    by_place p (inl e) full =
        let zero_is : unsigned_abs (coef_of cells p).num ≡ 0 =
        ap (λ (q : ℕ). unsigned_abs (coef_of cells q).num) e
        ∙ ap (λ (c : Fraction). unsigned_abs c.num) kept.end.coef in
        ap not (eq-eqb _ _ zero_is ∙ sym (eq-eqb p room e))
    by_place p (inr ne) full = ap not (ne_eqb _ _ (full ne) ∙ sym (ne_eqb p room ne))

    at_spot : (i j k : ℕ) → i < rows → j < columns → i * columns + j ≡ k →
        spot rows columns room places i j ≡ get_or places k room
    at_spot i j k hi hj e = spot_inside rows columns room places i j hi hj ∙ ap (λ (x : ℕ). get_or places x room) e

    row_below : (k : ℕ) → k < rows * columns → k / columns < rows
    row_below k h = div_below k columns rows (omega (arith, kept.sizes)) h

    each : (k : ℕ) → k < length places → not (unsigned_abs (coef_of cells (get_or places k room)).num == 0)
        ≡ not (get_or places k room == room)
    each k h = subst (λ (p : ℕ). not (unsigned_abs (coef_of cells p).num == 0) ≡ not (p == room))
        (at_spot (k / columns) (k % columns) k (row_below k (omega (arith, h, kept.sizes.places_long)))
        (omega (arith, kept.sizes)) (div-add-mod' k columns))
        (by_place (spot rows columns room places (k / columns) (k % columns))
        (cases_eq (spot rows columns room places (k / columns) (k % columns)) room) (λ ne.
        (kept.placed (k / columns) (k % columns) ne).nonzero))

-- a fraction is 0 just where there is no place
pub zero_where : (rows columns room terms free : ℕ) (places : List ℕ) (cells : List Cell) →
    IsWellLinked rows columns room terms free places cells → (i j : ℕ) →
    unsigned_abs (coef_of cells (spot rows columns room places i j)).num ≡ 0 →
    spot rows columns room places i j ≡ room
zero_where rows columns room terms free places cells kept i j z =
    by_place (cases_eq (spot rows columns room places i j) room)
  where
    by_place : (spot rows columns room places i j ≡ room) ⊎ (spot rows columns room places i j ≡ room → ⊥) →
        spot rows columns room places i j ≡ room
    by_place (inl e) = e
    by_place (inr ne) = absurd ((kept.placed i j ne).nonzero z)

pub full_where : (rows columns room terms free : ℕ) (places : List ℕ) (cells : List Cell) →
    IsWellLinked rows columns room terms free places cells → (i j : ℕ) →
    (unsigned_abs (coef_of cells (spot rows columns room places i j)).num ≡ 0 → ⊥) →
    spot rows columns room places i j ≡ room → ⊥
full_where rows columns room terms free places cells kept i j full e =
    full (ap (λ (q : ℕ). unsigned_abs (coef_of cells q).num) e
    ∙ ap (λ (c : Fraction). unsigned_abs c.num) kept.end.coef)

-- the count of places after a write
weight : ℕ → ℕ → ℕ
weight room p = cond (not (p == room)) 1 0

weight_none : (room p : ℕ) → p ≡ room → weight room p ≡ 0
unfolding weight
weight_none room p e = ap (λ (b : Bool). cond (not b) 1 0) (eq-eqb p room e)

weight_one : (room p : ℕ) → (p ≡ room → ⊥) → weight room p ≡ 1
unfolding weight
weight_one room p ne = ap (λ (b : Bool). cond (not b) 1 0) (ne_eqb p room ne)

count_sum : (room k p : ℕ) (places : List ℕ) → k < length places →
    count_by (λ p. not (p == room)) (set places k p) + weight room (get_or places k room)
    ≡ count_by (λ p. not (p == room)) places + weight room p
unfolding weight
count_sum room k p places h = sum_by-set (λ p. cond (not (p == room)) 1 0) places k p room h

pub count_more : (room k p : ℕ) (places : List ℕ) → k < length places → get_or places k room ≡ room → (p ≡ room → ⊥) →
    count_by (λ p. not (p == room)) (set places k p) ≡ count_by (λ p. not (p == room)) places + 1
count_more room k p places h e ne =
    omega (arith, count_sum room k p places h, weight_none room (get_or places k room) e, weight_one room p ne)

pub count_less : (room k : ℕ) (places : List ℕ) → k < length places → (get_or places k room ≡ room → ⊥) →
    count_by (λ p. not (p == room)) (set places k room) + 1 ≡ count_by (λ p. not (p == room)) places
count_less room k places h ne =
    omega (
      arith,
      count_sum room k room places h,
      weight_one room (get_or places k room) ne,
      weight_none room room refl,
    )

-- there are as many places as entries at most, and fewer where one is 0
few_places : (rows columns room terms free : ℕ) (places : List ℕ) (cells : List Cell) →
    IsWellLinked rows columns room terms free places cells → terms ≤ rows * columns
few_places rows columns room terms free places cells kept =
    omega (arith, kept.count, kept.sizes.places_long, count_by-le-length (λ p. not (p == room)) places)

fewer_places : (rows columns room terms free : ℕ) (places : List ℕ) (cells : List Cell) →
    IsWellLinked rows columns room terms free places cells → (i j : ℕ) → i < rows → j < columns →
    spot rows columns room places i j ≡ room → terms < rows * columns
fewer_places rows columns room terms free places cells kept i j hi hj empty =
    let inside : i * columns + j < length places =
    below_product rows columns i j (length places) hi hj kept.sizes.places_long in
    omega (
      arith,
      kept.count,
      kept.sizes.places_long,
      length-set places (i * columns + j) (room + 1),
      count_by-le-length (λ p. not (p == room)) (set places (i * columns + j) (room + 1)),
      count_more room (i * columns + j) (room + 1) places inside
          (sym (spot_inside rows columns room places i j hi hj) ∙ empty) (λ (e : room + 1 ≡ room). omega arith),
    )

pub has_places : (rows columns room terms free : ℕ) (places : List ℕ) (cells : List Cell) →
    IsWellLinked rows columns room terms free places cells → HasPlaces (table_of rows columns room places cells)
has_places rows columns room terms free places cells kept = record {
  rows_high = kept.sizes.rows_high;
  columns_high = kept.sizes.columns_high;
  room_high = kept.sizes.room_high;
  zero = λ i j z. entry i j
      ∙ zero_entry i j (zero_where rows columns room terms free places cells kept i j
      (sym (ap (λ (c : Fraction). unsigned_abs c.num) (entry i j)) ∙ z));
  below = λ i j full. (kept.placed i j (no_end i j full)).below;
  apart = λ i j p q full e.
      let here : IsPlaced room i j (spot rows columns room places i j) cells = kept.placed i j (no_end i j full) in
      let there : IsPlaced room p q (spot rows columns room places p q) cells =
      kept.placed p q (λ h. no_end i j full (e ∙ h)) in
      (sym here.row ∙ ap (row_of cells) e ∙ there.row, sym here.column ∙ ap (column_of cells) e ∙ there.column);
  outside = record {
    below_rows = λ i j h. entry i j ∙ zero_entry i j (spot_outside rows columns room places i j (inl h));
    past_columns = λ i j h. entry i j ∙ zero_entry i j (spot_outside rows columns room places i j (inr h));
  };
  counted = count_by_rows rows columns (map (coef_of cells) places) (length-map places (coef_of cells)
      ∙ kept.sizes.places_long);
  few = subst (λ (n : ℕ). n ≤ rows * columns) (counted rows columns room terms free places cells kept)
      (few_places rows columns room terms free places cells kept);
  fewer = λ i j hi hj z. subst (λ (n : ℕ). n < rows * columns) (counted rows columns room terms free places cells kept)
      (fewer_places rows columns room terms free places cells kept i j hi hj
      (zero_where rows columns room terms free places cells kept i j
      (sym (ap (λ (c : Fraction). unsigned_abs c.num) (entry i j)) ∙ z)));
}
  where
    entry : (i j : ℕ) → entry_at (table_of rows columns room places cells) i j
        ≡ coef_of cells (spot rows columns room places i j)
    entry i j = entry_is rows columns room places cells i j kept.end.coef

    zero_entry : (i j : ℕ) → spot rows columns room places i j ≡ room →
        coef_of cells (spot rows columns room places i j) ≡ zero_fraction
    zero_entry i j e = ap (coef_of cells) e ∙ kept.end.coef

    no_end : (i j : ℕ) → (unsigned_abs (entry_at (table_of rows columns room places cells) i j).num ≡ 0 → ⊥) →
        spot rows columns room places i j ≡ room → ⊥
    no_end i j full = full_where rows columns room terms free places cells kept i j (λ z.
        full (ap (λ (c : Fraction). unsigned_abs c.num) (entry i j) ∙ z))

-- ---- walks

-- what the first place of a line shows
pub record IsFound (room : ℕ) (line : Line) (key : ℕ → ℕ) (cells : List Cell) (from p : ℕ) : Type 0 where
  pub none : p ≡ room → AreZeroFrom line from
  pub some : (p ≡ room → ⊥) → IsFirstFrom line from (link_at p (key p) (coef_of cells p))

-- along a row or down a column
found : (room : ℕ) (line : Line) (key : ℕ → ℕ) (cells : List Cell) (from p : ℕ) →
    coef_of cells room ≡ zero_fraction → key room ≡ line.width →
    ((k : ℕ) → line.width ≤ k → line.place k ≡ room) →
    ((k : ℕ) → line.entry k ≡ coef_of cells (line.place k)) →
    ((k : ℕ) → (line.place k ≡ room → ⊥) → unsigned_abs (coef_of cells (line.place k)).num ≡ 0 → ⊥) →
    IsFirst room key line.place from p → IsFound room line key cells from p
found room line key cells from p zero_end ends outside entries full first = record {
  none = λ e k h. zero_at k (by_width e k h (cases_lt k line.width));
  some = λ ne. record {
    inside = within ne (cases_lt (key p) line.width);
    reached = first.reached;
    value = sym (entries (key p) ∙ ap (coef_of cells) first.stands);
    nonzero = λ z. full (key p) (λ e. ne (sym first.stands ∙ e))
        (sym (ap (λ (c : Fraction). unsigned_abs c.num) (entries (key p))) ∙ z);
    placed = sym first.stands;
    least = λ k h l. zero_at k (first.between k h l);
  };
}
  where
    within : (p ≡ room → ⊥) → (key p < line.width) ⊎ (line.width ≤ key p) → key p < line.width
    within ne (inl h) = h
    within ne (inr h) = absurd (ne (sym first.stands ∙ outside (key p) h))

    zero_at : (k : ℕ) → line.place k ≡ room → line.entry k ≡ zero_fraction
    zero_at k e = entries k ∙ ap (coef_of cells) e ∙ zero_end

    by_width : p ≡ room → (k : ℕ) → from ≤ k → (k < line.width) ⊎ (line.width ≤ k) → line.place k ≡ room
    by_width e k h (inl l) = first.between k h (omega (arith, l, ends, ap key e))
    by_width e k h (inr l) = outside k l

pub found_right : (rows columns room terms free : ℕ) (places : List ℕ) (cells : List Cell) (t : Table) →
    IsWellLinked rows columns room terms free places cells → table_of rows columns room places cells ≡ t →
    (i b at : ℕ) → i < t.rows → source (head_of t.room) (place_at t) i b ≡ at → (at ≡ t.room → ⊥) →
    IsFound room (row_line t i) (column_of cells) cells b (right_of cells at)
found_right rows columns room terms free places cells t kept is =
    subst (λ (u : Table). (i b at : ℕ) → i < u.rows → source (head_of u.room) (place_at u) i b ≡ at →
    (at ≡ u.room → ⊥) → IsFound room (row_line u i) (column_of cells) cells b (right_of cells at)) is
    (λ i b at h e ne. subst (λ (x : ℕ).
    IsFound room (row_line (table_of rows columns room places cells) i) (column_of cells) cells b
    (right_of cells x)) e
    (found room (row_line (table_of rows columns room places cells) i) (column_of cells) cells b
    (right_of cells (source (head_of room) (spot rows columns room places) i b)) kept.end.coef kept.end.column
    (λ k l. spot_outside rows columns room places i k (inr l)) (λ k.
    entry_is rows columns room places cells i k kept.end.coef) (λ k l. (kept.placed i k l).nonzero)
    (kept.across i b h (λ l. ne (sym e ∙ l)))))

pub found_down : (rows columns room terms free : ℕ) (places : List ℕ) (cells : List Cell) (t : Table) →
    IsWellLinked rows columns room terms free places cells → table_of rows columns room places cells ≡ t →
    (j b at : ℕ) → j < t.columns → source (head_of t.room) (λ j i. place_at t i j) j b ≡ at →
    (at ≡ t.room → ⊥) → IsFound room (column_line t j) (row_of cells) cells b (down_of cells at)
found_down rows columns room terms free places cells t kept is =
    subst (λ (u : Table). (j b at : ℕ) → j < u.columns →
    source (head_of u.room) (λ j i. place_at u i j) j b ≡ at → (at ≡ u.room → ⊥) →
    IsFound room (column_line u j) (row_of cells) cells b (down_of cells at)) is
    (λ j b at h e ne. subst (λ (x : ℕ).
    IsFound room (column_line (table_of rows columns room places cells) j) (row_of cells) cells b
    (down_of cells x)) e
    (found room (column_line (table_of rows columns room places cells) j) (row_of cells) cells b
    (down_of cells (source (head_of room) (λ j i. spot rows columns room places i j) j b)) kept.end.coef
    kept.end.row
    (λ k l. spot_outside rows columns room places k j (inl l)) (λ k.
    entry_is rows columns room places cells k j kept.end.coef) (λ k l. (kept.placed k j l).nonzero)
    (kept.down j b h (λ l. ne (sym e ∙ l)))))

-- ---- the places

-- each place is keyed, along rows and down columns
pub keyed_right : (rows columns room terms free : ℕ) (places : List ℕ) (cells : List Cell) →
    IsWellLinked rows columns room terms free places cells → (i j : ℕ) →
    (spot rows columns room places i j ≡ room → ⊥) →
    IsKeyed room i j (spot rows columns room places i j) (row_of cells) (column_of cells)
keyed_right rows columns room terms free places cells kept i j ne =
    let here : IsPlaced room i j (spot rows columns room places i j) cells = kept.placed i j ne in
    record { below = here.below; line = here.row; position = here.column }

pub keyed_down : (rows columns room terms free : ℕ) (places : List ℕ) (cells : List Cell) →
    IsWellLinked rows columns room terms free places cells → (j i : ℕ) →
    (spot rows columns room places i j ≡ room → ⊥) →
    IsKeyed room j i (spot rows columns room places i j) (column_of cells) (row_of cells)
keyed_down rows columns room terms free places cells kept j i ne =
    let here : IsPlaced room i j (spot rows columns room places i j) cells = kept.placed i j ne in
    record { below = here.below; line = here.column; position = here.row }

-- a lead as it was searched in the places, in the places
pub lead_right : (rows columns room terms free : ℕ) (places : List ℕ) (cells : List Cell) →
    IsWellLinked rows columns room terms free places cells → (i j q b : ℕ) → i < rows → j < columns →
    IsLead room (room + 1 + i) (λ m. get_or places (i * columns + m * 1) room) j q b →
    IsLead room (room + 1 + i) (spot rows columns room places i) j q b
lead_right rows columns room terms free places cells kept i j q b hi hj lead = record {
  order = lead.order;
  none = λ m k l. at_spot m (omega arith) ∙ lead.none m k l;
  from_head = lead.from_head;
  from_place = λ m e. at_spot m (omega (arith, lead.order)) ∙ lead.from_place m e;
  some = lead.some;
}
  where
    at_spot : (m : ℕ) → m < columns → spot rows columns room places i m ≡ get_or places (i * columns + m * 1) room
    at_spot m l = let e : i * columns + m ≡ i * columns + m * 1 =
        omega arith in spot_inside rows columns room places i m hi l ∙ ap (λ (x : ℕ). get_or places x room) e

pub lead_down : (rows columns room terms free : ℕ) (places : List ℕ) (cells : List Cell) →
    IsWellLinked rows columns room terms free places cells → (i j q b : ℕ) → i < rows → j < columns →
    IsLead room (room + 1 + j) (λ m. get_or places (j + m * columns) room) i q b →
    IsLead room (room + 1 + j) (λ m. spot rows columns room places m j) i q b
lead_down rows columns room terms free places cells kept i j q b hi hj lead = record {
  order = lead.order;
  none = λ m k l. at_spot m (omega arith) ∙ lead.none m k l;
  from_head = lead.from_head;
  from_place = λ m e. at_spot m (omega (arith, lead.order)) ∙ lead.from_place m e;
  some = lead.some;
}
  where
    at_spot : (m : ℕ) → m < rows → spot rows columns room places m j ≡ get_or places (j + m * columns) room
    at_spot m l = let e : m * columns + j ≡ j + m * columns =
        omega arith in spot_inside rows columns room places m j l hj ∙ ap (λ (x : ℕ). get_or places x room) e

-- a write to the places puts a place, along rows and down columns
pub put_right : (rows columns room : ℕ) (places : List ℕ) (i j p : ℕ) → i < rows → j < columns →
    length places ≡ rows * columns →
    IsPut i j p (spot rows columns room places) (spot rows columns room (set places (i * columns + j) p))
put_right rows columns room places i j p hi hj e = record {
  here = spot_set_same rows columns room places i j p hi hj e;
  line = λ m ne. spot_set_other rows columns room places i j p i m hj (λ _ h. ne h);
  others = λ l m ne. spot_set_other rows columns room places i j p l m hj (λ h _. ne h);
}

pub put_down : (rows columns room : ℕ) (places : List ℕ) (i j p : ℕ) → i < rows → j < columns →
    length places ≡ rows * columns →
    IsPut j i p (λ b a. spot rows columns room places a b) (λ b a.
    spot rows columns room (set places (i * columns + j) p) a b)
put_down rows columns room places i j p hi hj e = record {
  here = spot_set_same rows columns room places i j p hi hj e;
  line = λ m ne. spot_set_other rows columns room places i j p m j hj (λ h _. ne h);
  others = λ l m ne. spot_set_other rows columns room places i j p m l hj (λ _ h. ne h);
}

-- what a spot is after a write
pub data SpotAfter (rows columns room i j p a b : ℕ) (places places' : List ℕ) : Type 0 where
  same : a ≡ i → b ≡ j → spot rows columns room places' a b ≡ p → SpotAfter rows columns room i j p a b places places'
  other : (a ≡ i → b ≡ j → ⊥) → spot rows columns room places' a b ≡ spot rows columns room places a b →
      SpotAfter rows columns room i j p a b places places'

pub spot_after : (rows columns room i j p a b : ℕ) (places : List ℕ) → i < rows → j < columns →
    length places ≡ rows * columns →
    SpotAfter rows columns room i j p a b places (set places (i * columns + j) p)
spot_after rows columns room i j p a b places hi hj e = by_place (cases_eq a i) (cases_eq b j)
  where
    by_place : (a ≡ i) ⊎ (a ≡ i → ⊥) → (b ≡ j) ⊎ (b ≡ j → ⊥) →
        SpotAfter rows columns room i j p a b places (set places (i * columns + j) p)
    by_place (inl x) (inl y) = same x y (rw (x, y) (spot_set_same rows columns room places i j p hi hj e))
    by_place (inr x) _ = other (λ h _. x h) (spot_set_other rows columns room places i j p a b hj (λ h _. x h))
    by_place (inl _) (inr y) = other (λ _ h. y h) (spot_set_other rows columns room places i j p a b hj (λ _ h. y h))

-- ---- at a value

pub row_inside : (rows columns room : ℕ) (places : List ℕ) (cells : List Cell) (t : Table) (i : ℕ) →
    table_of rows columns room places cells ≡ t → i < t.rows → i < rows
row_inside rows columns room places cells t i is = subst (λ (u : Table). i < u.rows → i < rows) is (λ h. h)

pub column_inside : (rows columns room : ℕ) (places : List ℕ) (cells : List Cell) (t : Table) (j : ℕ) →
    table_of rows columns room places cells ≡ t → j < t.columns → j < columns
column_inside rows columns room places cells t j is = subst (λ (u : Table). j < u.columns → j < columns) is (λ h. h)

-- what is read of the places of a value
pub place_read : (rows columns room terms free : ℕ) (places : List ℕ) (cells : List Cell) (t : Table) →
    IsWellLinked rows columns room terms free places cells → table_of rows columns room places cells ≡ t →
    (i j x y : ℕ) → i < t.rows → j < t.columns → x ≡ get_or places (i * columns + j) x → y ≡ x →
    y ≡ spot rows columns room places i j
place_read rows columns room terms free places cells t kept is i j x y hi hj read e =
    e ∙ index_read rows columns room terms free places cells kept i j x
    (row_inside rows columns room places cells t i is hi)
    (column_inside rows columns room places cells t j is hj) read

pub read_low : (rows columns room terms free : ℕ) (places : List ℕ) (cells : List Cell) (t : Table) →
    IsWellLinked rows columns room terms free places cells → table_of rows columns room places cells ≡ t →
    (i j x y : ℕ) → i < t.rows → j < t.columns → x ≡ get_or places (i * columns + j) x → y ≡ x → y < length cells
read_low rows columns room terms free places cells t kept is i j x y hi hj read e =
    let at : y ≡ spot rows columns room places i j =
    place_read rows columns room terms free places cells t kept is i j x y hi hj read e in
    let low : spot rows columns room places i j ≤ room = place_low rows columns room terms free places cells kept i j in
    omega (arith, kept.sizes)

pub entry_read : (rows columns room terms free : ℕ) (places : List ℕ) (cells : List Cell) (t : Table) →
    IsWellLinked rows columns room terms free places cells → table_of rows columns room places cells ≡ t →
    (i j x y : ℕ) (z : Cell) → i < t.rows → j < t.columns → x ≡ get_or places (i * columns + j) x → y ≡ x →
    z ≡ get_or cells y z → z.coef ≡ entry_at t i j
unfolding coef_of
entry_read rows columns room terms free places cells t kept is i j x y z hi hj read e cell =
    ap (λ (c : Cell). c.coef)
    (cell_read cells y z (read_low rows columns room terms free places cells t kept is i j x y hi hj read e)
    cell)
    ∙ ap (λ (q : ℕ). (cell_of cells q).coef)
    (place_read rows columns room terms free places cells t kept is i j x y hi hj read e)
    ∙ subst (λ (u : Table). coef_of cells (spot rows columns room places i j) ≡ entry_at u i j) is
    (sym (entry_is rows columns room places cells i j kept.end.coef))
