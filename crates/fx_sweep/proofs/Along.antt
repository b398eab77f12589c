-- What a walk along the links of a row adds to the intervals of what the row reads.
use Rattle.std.proofs.Common.{◌≡◌, ◌≢◌, ℕ, zero, suc, ◌+◌, ◌-◌, ◌<◌, ◌≤◌, ◌⊎◌, List, [], ◌∷◌, refl, sym, ◌∙◌}
use Rattle.std.proofs.Common.{ap, subst, inl, inr, arith, add-one, unsigned_abs, ◌==◌, cond}
use Rattle.std.specs.Prelude.{⊤}
use mathlib.Core.Path.{fun_ext}
use Rattle.std.proofs.lemmas.Bool.{cases_eq, cases_lt, eq-eqb, ne_eqb, cond-true, cond-false}
use Rattle.std.proofs.Math.IntN.{ℤ, pos}
use Rattle.fx_nums.specs.Arithmetic.{multiple}
use Rattle.fx_nums.specs.Fraction.{Fraction}
use Rattle.fx_nums.specs.Interval.{Interval, plus}
use Rattle.fx_cross.specs.declared.cross.Link.{Link}
use Rattle.fx_cross.specs.Table.{Table, HasPlaces, entry_at}
use Rattle.fx_cross.specs.Walks.{Line, links_of, links_from, row_line, row_links}
use Rattle.fx_sweep.specs.Steps.{IsNarrow, with_multiples}
use Rattle.fx_sweep.specs.Weights.{taken}
use Rattle.fx_sweep.proofs.Added.{by_nothing, plus_nothing}
use Rattle.fx_sweep.proofs.Multiples.{weight_zero}

-- the interval in place j, after what the links add to it
abbrev pub given : ℤ → List Link → ℕ → Interval → Interval
given w [] j x = x
given w (l ∷ ls) j x = given w ls j (cond (j == l.index) (plus x (multiple w l.coef)) x)

-- the places of the links rise from a place on, and are below a width
abbrev pub Rises : ℕ → ℕ → List Link → Type 0
Rises from width [] = ⊤
Rises from width (l ∷ ls) = (from ≤ l.index) × ((l.index < width) × Rises (suc l.index) width ls)

rises_before : (from to width : ℕ) (ls : List Link) → from ≤ to → Rises to width ls → Rises from width ls
rises_before from to width [] h r = tt
rises_before from to width (l ∷ ls) h r = (omega (arith, h, r.0), r.1)

rises_of : (line : Line) (from n width : ℕ) → from + n ≤ width → Rises from width (links_of line from n)
rises_of line from zero width h = tt
rises_of line from (suc n) width h =
    by_entry (cases_eq (unsigned_abs (line.entry from).num) 0) (rises_of line (suc from) n width (omega arith))
  where
    by_entry : (unsigned_abs (line.entry from).num ≡ 0) ⊎ (unsigned_abs (line.entry from).num ≡ 0 → ⊥) →
        Rises (suc from) width (links_of line (suc from) n) → Rises from width (links_of line from (suc n))
    by_entry (inl e) r = subst (Rises from width)
        (sym (cond-true _ _ _ (eq-eqb (unsigned_abs (line.entry from).num) 0 e)))
        (rises_before from (suc from) width (links_of line (suc from) n) (omega arith) r)
    by_entry (inr ne) r = subst (Rises from width)
        (sym (cond-false _ _ _ (ne_eqb (unsigned_abs (line.entry from).num) 0 ne))) (
          omega arith,
          (omega arith, r),
        )

-- a place outside of the links stays
given_outside : (w : ℤ) (line : Line) (from n j : ℕ) (x : Interval) → (from ≤ j → from + n ≤ j) →
    given w (links_of line from n) j x ≡ x
given_outside w line from zero j x h = refl
given_outside w line from (suc n) j x h =
    by_entry (cases_eq (unsigned_abs (line.entry from).num) 0)
    (given_outside w line (suc from) n j x (λ l. omega (arith, h (omega arith))))
  where
    by_entry : (unsigned_abs (line.entry from).num ≡ 0) ⊎ (unsigned_abs (line.entry from).num ≡ 0 → ⊥) →
        given w (links_of line (suc from) n) j x ≡ x → given w (links_of line from (suc n)) j x ≡ x
    by_entry (inl e) r = ap (λ (ls : List Link). given w ls j x)
        (cond-true _ _ _ (eq-eqb (unsigned_abs (line.entry from).num) 0 e)) ∙ r
    by_entry (inr ne) r =
        ap (λ (ls : List Link). given w ls j x) (cond-false _ _ _ (ne_eqb (unsigned_abs (line.entry from).num) 0 ne))
        ∙ (let other : j ≡ from → ⊥ = λ e. (let far = h (omega (arith, e)) in omega (arith, e, far)) in
        ap (given w (links_of line (suc from) n) j) (cond-false _ _ _ (ne_eqb j from other)))
        ∙ r

-- a place among them has its multiple
given_at : (w : ℤ) (line : Line) (from n j : ℕ) (x : Interval) → from ≤ j → j < from + n →
    given w (links_of line from n) j x ≡ plus x (multiple w (line.entry j))
given_at w line from zero j x h l = absurd (omega arith)
given_at w line from (suc n) j x h l =
    by_entry (cases_eq (unsigned_abs (line.entry from).num) 0) (cases_eq j from) (λ (less : from < j).
    given_at w line (suc from) n j x (omega arith) (omega arith))
  where
    by_entry : (unsigned_abs (line.entry from).num ≡ 0) ⊎ (unsigned_abs (line.entry from).num ≡ 0 → ⊥) →
        (j ≡ from) ⊎ (j ≡ from → ⊥) →
        (from < j → given w (links_of line (suc from) n) j x ≡ plus x (multiple w (line.entry j))) →
        given w (links_of line from (suc n)) j x ≡ plus x (multiple w (line.entry j))
    by_entry (inl e) (inr ne) later =
        ap (λ (ls : List Link). given w ls j x)
        (cond-true _ _ _ (eq-eqb (unsigned_abs (line.entry from).num) 0 e)) ∙ later (omega (arith, ne))
    by_entry (inl e) (inl same) later =
        ap (λ (ls : List Link). given w ls j x) (cond-true _ _ _ (eq-eqb (unsigned_abs (line.entry from).num) 0 e))
        ∙ given_outside w line (suc from) n j x (λ l. absurd (omega (arith, same, l)))
        ∙ sym (plus_nothing x _ (by_nothing w (line.entry j)
        (ap (λ (m : ℕ). unsigned_abs (line.entry m).num) same ∙ e)))
    by_entry (inr full) (inr ne) later =
        ap (λ (ls : List Link). given w ls j x) (cond-false _ _ _ (ne_eqb (unsigned_abs (line.entry from).num) 0 full))
        ∙ ap (given w (links_of line (suc from) n) j) (cond-false _ _ _ (ne_eqb j from ne))
        ∙ later (omega (arith, ne))
    by_entry (inr full) (inl same) later =
        ap (λ (ls : List Link). given w ls j x) (cond-false _ _ _ (ne_eqb (unsigned_abs (line.entry from).num) 0 full))
        ∙ ap (given w (links_of line (suc from) n) j) (cond-true _ _ _ (eq-eqb j from same))
        ∙ given_outside w line (suc from) n j _ (λ l. absurd (omega (arith, same, l)))
        ∙ ap (λ (m : ℕ). plus x (multiple w (line.entry m))) (sym same)

pub row_rises : (t : Table) (i : ℕ) → Rises 0 t.columns (row_links t i)
unfolding links_from
row_rises t i = rises_of (row_line t i) 0 (t.columns - 0) t.columns (omega arith)

-- all links of a row add the multiples by its entries
pub row_given : (t : Table) → HasPlaces t → (w : ℤ) (i j : ℕ) (x : Interval) →
    given w (row_links t i) j x ≡ plus x (multiple w (entry_at t i j))
unfolding links_from
row_given t places w i j x = by_place (cases_lt j t.columns)
  where
    by_place : (j < t.columns) ⊎ (t.columns ≤ j) → given w (links_of (row_line t i) 0 (t.columns - 0)) j x
        ≡ plus x (multiple w (entry_at t i j))
    by_place (inl h) = given_at w (row_line t i) 0 (t.columns - 0) j x (omega arith) (omega arith)
    by_place (inr h) = given_outside w (row_line t i) 0 (t.columns - 0) j x (λ l. omega arith)
        ∙ sym (plus_nothing x _ (by_nothing w (entry_at t i j)
        (ap (λ (c : Fraction). unsigned_abs c.num) (places.outside.past_columns i j h))))

-- ---- one link more

-- the links that are left, from a place on, where the intervals are still those of the start
abbrev pub IsAhead : ℕ → List Link → (ℕ → Interval) → (ℕ → Interval) → Type 0
IsAhead columns rest start now = (from : ℕ) × (Rises from columns rest × ((j : ℕ) → from ≤ j → now j ≡ start j))

pub left_more : (w : ℤ) (link : Link) (rest : List Link) (now next : ℕ → Interval) →
    next link.index ≡ plus (now link.index) (multiple w link.coef) → ((k : ℕ) → k ≢ link.index → next k ≡ now k) →
    (j : ℕ) → given w rest j (next j) ≡ given w (link ∷ rest) j (now j)
left_more w link rest now next here others j = ap (given w rest j) (by_place (cases_eq j link.index))
  where
    by_place : (j ≡ link.index) ⊎ (j ≡ link.index → ⊥) →
        next j ≡ cond (j == link.index) (plus (now j) (multiple w link.coef)) (now j)
    by_place (inl e) =
        ap next e ∙ here ∙ ap (λ (m : ℕ). plus (now m) (multiple w link.coef)) (sym e)
        ∙ sym (cond-true _ _ _ (eq-eqb j link.index e))
    by_place (inr ne) = others j ne ∙ sym (cond-false _ _ _ (ne_eqb j link.index ne))

pub ahead_more : (columns : ℕ) (link : Link) (rest : List Link) (start now next : ℕ → Interval) →
    IsAhead columns (link ∷ rest) start now →
    ((k : ℕ) → k ≢ link.index → next k ≡ now k) → IsAhead columns rest start next
ahead_more columns link rest start now next (from, (rises, same)) others = (
  suc link.index,
  (
    rises.1.1,
    (λ j h. others j (λ e. absurd (omega (arith, e, h))) ∙ same j (omega (arith, rises.0, h))),
  ),
)

pub link_here : (columns : ℕ) (link : Link) (rest : List Link) (start now : ℕ → Interval) →
    IsAhead columns (link ∷ rest) start now → now link.index ≡ start link.index
link_here columns link rest start now (from, (rises, same)) = same link.index rises.0

pub narrow_more : (link : Link) (start now next : ℕ → Interval) (b w c v : ℕ) → now link.index ≡ start link.index →
    ((j : ℕ) → IsNarrow b w (start j)) → ((j : ℕ) → IsNarrow c v (now j)) →
    (IsNarrow b w (now link.index) → IsNarrow c v (next link.index)) →
    ((k : ℕ) → k ≢ link.index → next k ≡ now k) → (j : ℕ) → IsNarrow c v (next j)
narrow_more link start now next b w c v same first before here others j = by_place (cases_eq j link.index)
  where
    by_place : (j ≡ link.index) ⊎ (j ≡ link.index → ⊥) → IsNarrow c v (next j)
    by_place (inl e) = rw e (here (rw same (first link.index)))
    by_place (inr ne) = rw (others j ne) (before j)

-- ---- one row more

pub taken_more : (n : ℕ) (at : ℕ → Interval) (coefficients : ℕ → ℕ → Fraction) (now next : ℕ → Interval) →
    now ≡ (λ j. taken n at (λ i. coefficients i j)) → next ≡ with_multiples (at n).lo (coefficients n) now →
    next ≡ (λ j. taken (n + 1) at (λ i. coefficients i j))
taken_more n at coefficients now next e f = rw add-one (f ∙ ap (with_multiples (at n).lo (coefficients n)) e)

-- a weight of 0 adds nothing
pub nothing_added : (w : ℤ) (coefficients : ℕ → Fraction) (at : ℕ → Interval) → w ≡ pos 0 →
    at ≡ with_multiples w coefficients at
nothing_added w coefficients at e = fun_ext (λ j. sym (plus_nothing (at j) _ (weight_zero w (coefficients j) e)))
