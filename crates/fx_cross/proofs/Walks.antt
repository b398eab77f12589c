-- What a step of a walk meets.
use Rattle.std.proofs.Common.{◌≡◌, ℕ, zero, suc, ◌+◌, ◌<◌, ◌≤◌, List, length, get_or, sym, ◌∙◌, ap, subst}
use Rattle.std.proofs.Common.{arith, unsigned_abs, add-one}
use Rattle.fx_nums.specs.Fraction.{Fraction}
use Rattle.fx_cross.specs.declared.cell.Cell.{Cell}
use Rattle.fx_cross.specs.declared.cross.Link.{Link}
use Rattle.fx_cross.specs.Table.{Table, spot, place_at, IsEntry}
use Rattle.fx_cross.specs.Walks.{Line, row_line, column_line, link_at, IsFirstFrom, LeadsAlong, LeadsDown}
use Rattle.fx_cross.specs.Cells.{cell_of, row_of, column_of, coef_of, table_of}
use Rattle.fx_cross.specs.Lines.{source}
use Rattle.fx_cross.specs.WellLinked.{IsWellLinked, head_of}
use Rattle.fx_cross.proofs.Facts.{place_low, cell_read, found_right, found_down, IsFound, full_where, entry_is}

-- what a link shows is what its cell shows
first_shown : (line : Line) (key : ℕ → ℕ) (cells : List Cell) (b p k : ℕ) (c : Fraction) →
    IsFirstFrom line b (link_at p (key p) (coef_of cells p)) → k ≡ key p → c ≡ coef_of cells p →
    IsFirstFrom line b (link_at p k c)
first_shown line key cells b p k c first e d =
    subst (λ (m : ℕ). IsFirstFrom line b (link_at p m c)) (sym e)
    (subst (λ (f : Fraction). IsFirstFrom line b (link_at p (key p) f)) (sym d) first)

-- the place that was found is that of a cell
found_low : (rows columns room terms free : ℕ) (places : List ℕ) (cells : List Cell) (t : Table) →
    IsWellLinked rows columns room terms free places cells → table_of rows columns room places cells ≡ t →
    (i j p : ℕ) → p ≡ place_at t i j → p < length cells
found_low rows columns room terms free places cells t kept is i j p =
    subst (λ (u : Table). p ≡ place_at u i j → p < length cells) is
    (λ e. let low : spot rows columns room places i j ≤ room =
    place_low rows columns room terms free places cells kept i j in omega (arith, kept.sizes))

-- an entry that is not 0 has a place, which is not the room
pub entry_full : (rows columns room terms free : ℕ) (places : List ℕ) (cells : List Cell) (t : Table) →
    IsWellLinked rows columns room terms free places cells → table_of rows columns room places cells ≡ t →
    (i j p : ℕ) → IsEntry t i j p → p ≡ t.room → ⊥
entry_full rows columns room terms free places cells t kept is i j p =
    subst (λ (u : Table). IsEntry u i j p → p ≡ u.room → ⊥) is
    (λ e h. full_where rows columns room terms free places cells kept i j (λ z.
    e.nonzero (ap (λ (c : Fraction). unsigned_abs c.num)
    (entry_is rows columns room places cells i j kept.end.coef) ∙ z)) (e.placed ∙ h))

pub room_is : (rows columns room : ℕ) (places : List ℕ) (cells : List Cell) (t : Table) →
    table_of rows columns room places cells ≡ t → room ≡ t.room
room_is rows columns room places cells t is = ap (λ (u : Table). u.room) is

-- ---- along a row

right_source_low : (rows columns room terms free : ℕ) (places : List ℕ) (cells : List Cell) (t : Table) →
    IsWellLinked rows columns room terms free places cells → table_of rows columns room places cells ≡ t →
    (i b at : ℕ) → LeadsAlong t i b at → at < length cells
right_source_low rows columns room terms free places cells t kept is =
    subst (λ (u : Table). (i b at : ℕ) → LeadsAlong u i b at →
    at < length cells) is (λ i b at from. low i b at from.inside from.leads)
  where
    low : (i b at : ℕ) → i < rows → source (head_of room) (spot rows columns room places) i b ≡ at → at < length cells
    low i zero at h e = omega (arith, kept.sizes)
    low i (suc k) at h e = let below : spot rows columns room places i k ≤ room =
        place_low rows columns room terms free places cells kept i k in omega (arith, kept.sizes)

pub right_found : (rows columns room terms free : ℕ) (places : List ℕ) (cells : List Cell) (t : Table) →
    IsWellLinked rows columns room terms free places cells → table_of rows columns room places cells ≡ t →
    (at place : ℕ) (y : Cell) → y ≡ get_or cells at y → place ≡ y.right → (i b : ℕ) → LeadsAlong t i b at →
    IsFound room (row_line t i) (column_of cells) cells b place
right_found rows columns room terms free places cells t kept is at place y read e i b from =
    let here : y ≡ cell_of cells at =
    cell_read cells at y (right_source_low rows columns room terms free places cells t kept is i b at from)
    read in
    subst (λ (p : ℕ). IsFound room (row_line t i) (column_of cells) cells b p)
    (sym (e ∙ ap (λ (c : Cell). c.right) here))
    (found_right rows columns room terms free places cells t kept is i b at from.inside from.leads from.some)

pub right_some : (rows columns room terms free : ℕ) (places : List ℕ) (cells : List Cell) (t : Table) →
    IsWellLinked rows columns room terms free places cells → table_of rows columns room places cells ≡ t →
    (at place : ℕ) (y z : Cell) → y ≡ get_or cells at y → place ≡ y.right → (place ≡ room → ⊥) →
    z ≡ get_or cells place z →
    (i b : ℕ) → LeadsAlong t i b at → IsFirstFrom (row_line t i) b (link_at place z.column z.coef)
unfolding coef_of
right_some rows columns room terms free places cells t kept is at place y z read e full there i b from =
    let first : IsFirstFrom (row_line t i) b (link_at place (column_of cells place) (coef_of cells place)) =
    (right_found rows columns room terms free places cells t kept is at place y read e i b from).some full in
    let shown : z ≡ cell_of cells place =
    cell_read cells place z (found_low rows columns room terms free places cells t kept is i
    (column_of cells place) place first.placed) there in
    first_shown (row_line t i) (column_of cells) cells b place z.column z.coef first
    (ap (λ (c : Cell). c.column) shown) (ap (λ (c : Cell). c.coef) shown)

pub right_low : (rows columns room terms free : ℕ) (places : List ℕ) (cells : List Cell) (t : Table) →
    IsWellLinked rows columns room terms free places cells → table_of rows columns room places cells ≡ t →
    (at place : ℕ) (y : Cell) → y ≡ get_or cells at y → place ≡ y.right → (place ≡ room → ⊥) → (i b : ℕ) →
    LeadsAlong t i b at → place < length cells
right_low rows columns room terms free places cells t kept is at place y read e full i b from =
    found_low rows columns room terms free places cells t kept is i (column_of cells place) place
    ((right_found rows columns room terms free places cells t kept is at place y read e i b from).some
    full).placed

-- the head of a line leads to its first entry
pub right_head : (rows columns room : ℕ) (places : List ℕ) (cells : List Cell) (t : Table) →
    table_of rows columns room places cells ≡ t → (i : ℕ) → i < t.rows → LeadsAlong t i 0 (room + 1 + i)
right_head rows columns room places cells t is i h = let e : room ≡ t.room =
    room_is rows columns room places cells t is in record {
      inside = h;
      leads = ap (λ (r : ℕ). r + 1 + i) (sym e);
      some = omega arith;
    }

-- the place of an entry leads to the next
pub right_entry : (rows columns room terms free : ℕ) (places : List ℕ) (cells : List Cell) (t : Table) →
    IsWellLinked rows columns room terms free places cells → table_of rows columns room places cells ≡ t →
    (i j p : ℕ) → i < t.rows → IsEntry t i j p → LeadsAlong t i (j + 1) p
right_entry rows columns room terms free places cells t kept is i j p h entry =
    record {
      inside = h;
      leads = rw add-one entry.placed;
      some =
          entry_full rows columns room terms free places cells t kept is i j p entry;
    }

-- and so it does from each position where it stands
pub right_again : (t : Table) (i b j at : ℕ) → place_at t i j ≡ at → LeadsAlong t i b at → LeadsAlong t i (j + 1) at
right_again t i b j at e from = record { inside = from.inside; leads = rw add-one e; some = from.some }

pub right_onward : (rows columns room terms free : ℕ) (places : List ℕ) (cells : List Cell) (t : Table) →
    IsWellLinked rows columns room terms free places cells → table_of rows columns room places cells ≡ t →
    (i b : ℕ) (link : Link) → i < t.rows → IsFirstFrom (row_line t i) b link →
    LeadsAlong t i (link.index + 1) link.place
right_onward rows columns room terms free places cells t kept is i b link h first =
    right_entry rows columns room terms free places cells t kept is i link.index link.place h
    (record { nonzero = first.nonzero; placed = sym first.placed })

-- ---- down a column

down_source_low : (rows columns room terms free : ℕ) (places : List ℕ) (cells : List Cell) (t : Table) →
    IsWellLinked rows columns room terms free places cells → table_of rows columns room places cells ≡ t →
    (j b at : ℕ) → LeadsDown t j b at → at < length cells
down_source_low rows columns room terms free places cells t kept is =
    subst (λ (u : Table). (j b at : ℕ) → LeadsDown u j b at →
    at < length cells) is (λ j b at from. low j b at from.inside from.leads)
  where
    low : (j b at : ℕ) → j < columns → source (head_of room) (λ j i. spot rows columns room places i j) j b
        ≡ at → at < length cells
    low j zero at h e = omega (arith, kept.sizes)
    low j (suc k) at h e = let below : spot rows columns room places k j ≤ room =
        place_low rows columns room terms free places cells kept k j in omega (arith, kept.sizes)

pub down_found : (rows columns room terms free : ℕ) (places : List ℕ) (cells : List Cell) (t : Table) →
    IsWellLinked rows columns room terms free places cells → table_of rows columns room places cells ≡ t →
    (at place : ℕ) (y : Cell) → y ≡ get_or cells at y → place ≡ y.down → (j b : ℕ) → LeadsDown t j b at →
    IsFound room (column_line t j) (row_of cells) cells b place
down_found rows columns room terms free places cells t kept is at place y read e j b from =
    let here : y ≡ cell_of cells at =
    cell_read cells at y (down_source_low rows columns room terms free places cells t kept is j b at from)
    read in
    subst (λ (p : ℕ). IsFound room (column_line t j) (row_of cells) cells b p)
    (sym (e ∙ ap (λ (c : Cell). c.down) here))
    (found_down rows columns room terms free places cells t kept is j b at from.inside from.leads from.some)

pub down_some : (rows columns room terms free : ℕ) (places : List ℕ) (cells : List Cell) (t : Table) →
    IsWellLinked rows columns room terms free places cells → table_of rows columns room places cells ≡ t →
    (at place : ℕ) (y z : Cell) → y ≡ get_or cells at y → place ≡ y.down → (place ≡ room → ⊥) →
    z ≡ get_or cells place z →
    (j b : ℕ) → LeadsDown t j b at → IsFirstFrom (column_line t j) b (link_at place z.row z.coef)
unfolding coef_of
down_some rows columns room terms free places cells t kept is at place y z read e full there j b from =
    let first : IsFirstFrom (column_line t j) b (link_at place (row_of cells place) (coef_of cells place)) =
    (down_found rows columns room terms free places cells t kept is at place y read e j b from).some full in
    let shown : z ≡ cell_of cells place =
    cell_read cells place z (found_low rows columns room terms free places cells t kept is
    (row_of cells place) j place first.placed) there in
    first_shown (column_line t j) (row_of cells) cells b place z.row z.coef first
    (ap (λ (c : Cell). c.row) shown) (ap (λ (c : Cell). c.coef) shown)

pub down_low : (rows columns room terms free : ℕ) (places : List ℕ) (cells : List Cell) (t : Table) →
    IsWellLinked rows columns room terms free places cells → table_of rows columns room places cells ≡ t →
    (at place : ℕ) (y : Cell) → y ≡ get_or cells at y → place ≡ y.down → (place ≡ room → ⊥) → (j b : ℕ) →
    LeadsDown t j b at → place < length cells
down_low rows columns room terms free places cells t kept is at place y read e full j b from =
    found_low rows columns room terms free places cells t kept is (row_of cells place) j place
    ((down_found rows columns room terms free places cells t kept is at place y read e j b from).some
    full).placed

-- the head of a line leads to its first entry
pub down_head : (rows columns room : ℕ) (places : List ℕ) (cells : List Cell) (t : Table) →
    table_of rows columns room places cells ≡ t → (j : ℕ) → j < t.columns → LeadsDown t j 0 (room + 1 + j)
down_head rows columns room places cells t is j h = let e : room ≡ t.room =
    room_is rows columns room places cells t is in record {
      inside = h;
      leads = ap (λ (r : ℕ). r + 1 + j) (sym e);
      some = omega arith;
    }

-- the place of an entry leads to the next
pub down_entry : (rows columns room terms free : ℕ) (places : List ℕ) (cells : List Cell) (t : Table) →
    IsWellLinked rows columns room terms free places cells → table_of rows columns room places cells ≡ t →
    (i j p : ℕ) → j < t.columns → IsEntry t i j p → LeadsDown t j (i + 1) p
down_entry rows columns room terms free places cells t kept is i j p h entry =
    record {
      inside = h;
      leads = rw add-one entry.placed;
      some =
          entry_full rows columns room terms free places cells t kept is i j p entry;
    }

-- and so it does from each position where it stands
pub down_again : (t : Table) (j b i at : ℕ) → place_at t i j ≡ at → LeadsDown t j b at → LeadsDown t j (i + 1) at
down_again t j b i at e from = record { inside = from.inside; leads = rw add-one e; some = from.some }

pub down_onward : (rows columns room terms free : ℕ) (places : List ℕ) (cells : List Cell) (t : Table) →
    IsWellLinked rows columns room terms free places cells → table_of rows columns room places cells ≡ t →
    (j b : ℕ) (link : Link) → j < t.columns → IsFirstFrom (column_line t j) b link →
    LeadsDown t j (link.index + 1) link.place
down_onward rows columns room terms free places cells t kept is j b link h first =
    down_entry rows columns room terms free places cells t kept is link.index j link.place h
    (record { nonzero = first.nonzero; placed = sym first.placed })
