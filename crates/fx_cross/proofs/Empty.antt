-- A table of zeros.
use Rattle.std.proofs.Common.{◌≡◌, ℕ, zero, suc, ◌+◌, ◌-◌, ◌*◌, ◌<◌, ◌≤◌, List, length, replicate, refl, sym}
use Rattle.std.proofs.Common.{◌∙◌, ap, subst, arith, not, ◌==◌, cond, Bool}
use mathlib.Core.Path.{fun_ext}
use Rattle.std.specs.List.{count_by}
use Rattle.std.proofs.lemmas.Bool.{eq-eqb}
use Rattle.std.proofs.lemmas.List.{length-replicate}
use Rattle.std.proofs.lemmas.List.Folds.{sum_by-replicate}
use Rattle.fx_nums.specs.Fraction.{zero_fraction}
use Rattle.fx_cross.specs.declared.cell.Cell.{Cell}
use Rattle.fx_cross.specs.declared.limits.TheConstants.{GREATEST_SIDE, GREATEST_ROOM}
use Rattle.fx_cross.specs.Table.{spot, entry_at, no_entries}
use Rattle.fx_cross.specs.Cells.{cell_of, row_of, column_of, right_of, down_of, coef_of, table_of}
use Rattle.fx_cross.specs.Lines.{IsFirst, AreLinked}
use Rattle.fx_cross.specs.WellLinked.{IsWellLinked, IsFree, head_of}
use Rattle.fx_cross.proofs.Spots.{spot_replicate}
use Rattle.fx_cross.proofs.Facts.{entry_is}

-- lines with no place, whose heads lead to the end
empty_line : (end lines : ℕ) (head key next : ℕ → ℕ) (place : ℕ → ℕ → ℕ) → ((l k : ℕ) → place l k ≡ end) →
    ((l : ℕ) → l < lines → next (head l) ≡ end) → AreLinked end lines head key next place
empty_line end lines head key next place none heads l zero h some =
    subst (λ (p : ℕ). IsFirst end key (place l) 0 p) (sym (heads l h))
    (record { reached = omega arith; stands = none l (key end); between = λ m _ _. none l m })
empty_line end lines head key next place none heads l (suc k) h some = absurd (some (none l k))

count_none : (room n : ℕ) (places : List ℕ) → places ≡ replicate n room → 0 ≡ count_by (λ p. not (p == room)) places
count_none room n places e =
    let each : cond (not (room == room)) 1 0 ≡ 0 = ap (λ (b : Bool). cond (not b) 1 0) (eq-eqb room room refl) in
    sym (ap (count_by (λ p. not (p == room))) e ∙ sum_by-replicate (λ p. cond (not (p == room)) 1 0) n room
    ∙ ap (λ (m : ℕ). n * m) each ∙ omega arith)

pub empty_kept : (rows columns room n : ℕ) (places : List ℕ) (cells : List Cell) → 1 ≤ rows →
    rows ≤ GREATEST_SIDE → 1 ≤ columns → columns ≤ GREATEST_SIDE → 1 ≤ room → room ≤ GREATEST_ROOM →
    places ≡ replicate n room → n ≡ rows * columns → length cells ≡ room + 1 + GREATEST_SIDE →
    ((p : ℕ) → room ≤ p → p < room + 1 + GREATEST_SIDE →
    cell_of cells p ≡ record {
      row = rows;
      column = columns;
      right = room;
      down = room;
      coef =
          zero_fraction;
    }) →
    ((t : ℕ) → t < room → right_of cells t ≡ t + 1) → ((t : ℕ) → t < room → down_of cells t ≡ room - t) →
    IsWellLinked rows columns room 0 0 places cells
unfolding coef_of
empty_kept rows columns room n places cells rl rh cl ch ml mh ei en long others chain ranks = record {
  sizes = record {
    rows_low = rl;
    rows_high = rh;
    columns_low = cl;
    columns_high = ch;
    room_low = ml;
    room_high = mh;
    terms_high = omega arith;
    places_long = ap length ei ∙ length-replicate n room ∙ en;
    cells_long = long;
  };
  end = record {
    row = ap (λ (c : Cell). c.row) (others room (omega arith) (omega arith));
    column = ap (λ (c : Cell). c.column) (others room (omega arith) (omega arith));
    coef = ap (λ (c : Cell). c.coef) (others room (omega arith) (omega arith));
  };
  placed = λ i j ne. absurd (ne (none i j));
  across = empty_line room rows (head_of room) (column_of cells) (right_of cells)
      (spot rows columns room places) none (λ l h.
      ap (λ (c : Cell). c.right) (others (room + 1 + l) (omega arith) (omega arith)));
  down = empty_line room columns (head_of room) (row_of cells) (down_of cells) (λ j i.
      spot rows columns room places i j) (λ j i. none i j) (λ l h.
      ap (λ (c : Cell). c.down) (others (room + 1 + l) (omega arith) (omega arith)));
  freed = record {
    first = λ _. record { below = ml; unused = λ i j. unused 0 i j ml; ranked = ranks 0 ml };
    onward = λ p r s k. onward p r s k;
    high = λ p r s. let rank : down_of cells p ≡ r = s.ranked in let is : down_of cells p ≡ room - p =
        ranks p s.below in omega arith;
    only = λ p q r x y.
        let px : p < room = x.below in let qy : q < room = y.below in
        let rank : down_of cells p ≡ r = x.ranked in let is : down_of cells p ≡ room - p = ranks p x.below in
        let rank' : down_of cells q ≡ r = y.ranked in let is' : down_of cells q ≡ room - q =
        ranks q y.below in omega arith;
  };
  count = count_none room n places ei;
}
  where
    none : (i j : ℕ) → spot rows columns room places i j ≡ room
    none i j = ap (λ (xs : List ℕ). spot rows columns room xs i j) ei ∙ spot_replicate rows columns room n i j

    unused : (t i j : ℕ) → t < room → spot rows columns room places i j ≡ t → ⊥
    unused t i j h e = let no : spot rows columns room places i j ≡ room = none i j in omega arith

    onward : (p r : ℕ) → IsFree room p r (down_of cells) (spot rows columns room places) → 1 < r →
        IsFree room (right_of cells p) (r - 1) (down_of cells) (spot rows columns room places)
    onward p r s k =
        let low : p < room = s.below in
        let rank : down_of cells p ≡ r = s.ranked in
        let is : down_of cells p ≡ room - p = ranks p s.below in
        let more : p + 1 < room = omega arith in
        subst (λ (x : ℕ). IsFree room x (r - 1) (down_of cells) (spot rows columns room places))
        (sym (chain p low)) (record {
          below = more;
          unused = λ i j. unused (p + 1) i j more;
          ranked =
              ranks (p + 1) more ∙ omega arith;
        })

pub empty_entries : (rows columns room n terms free : ℕ) (places : List ℕ) (cells : List Cell) →
    IsWellLinked rows columns room terms free places cells → places ≡ replicate n room →
    entry_at (table_of rows columns room places cells) ≡ no_entries
empty_entries rows columns room n terms free places cells kept e = fun_ext (λ i. fun_ext (λ j.
    entry_is rows columns room places cells i j kept.end.coef
    ∙ ap (coef_of cells) (ap (λ (xs : List ℕ). spot rows columns room xs i j) e
    ∙ spot_replicate rows columns room n i j) ∙ kept.end.coef))
