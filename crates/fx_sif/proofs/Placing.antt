-- Entries that are put one after another make the rows of the form.
use Rattle.std.proofs.Common.{◌≡◌, ℕ, zero, suc, ◌+◌, ◌-◌, ◌<◌, ◌≤◌, ◌⊎◌, inl, inr, Bool, true, false, cond}
use Rattle.std.proofs.Common.{◌&&◌, eqb, List, [], ◌∷◌, ◌++◌, map, filter, length, All, get_or, refl, arith}
use Rattle.std.proofs.Common.{sym, ap, ◌∙◌, length-append}
use mathlib.Core.Path.{fun_ext}
use Rattle.std.proofs.lemmas.Bool.{eq-eqb, ne_eqb, and_left, and_right, and_from, cond-true, cond-false}
use Rattle.std.proofs.lemmas.Bool.{cases_lt, cases_eq, lt-ltb, le-leb, le-ltb, lt-leb}
use Rattle.std.proofs.lemmas.List.Elements.{All-head, All-tail}
use Rattle.std.proofs.lemmas.List.{get_or_append_left}
use Rattle.std.proofs.Math.Seq.{get_or-append_seam}
use Rattle.fx_math.specs.Sums.{joined}
use Rattle.fx_nums.specs.Fraction.{Fraction, zero_fraction}
use Rattle.fx_eqs.specs.Expanded.{NetRead, NetTerm}
use Rattle.fx_eqs.specs.Expanded.NetRead.{Now, Old, In}
use Rattle.fx_net.specs.Net.{Net, plain}
use Rattle.fx_net.specs.Rows.{reads_now, reads_old, reads_input, coefficient_or, coefficient, row_of, is_within}
use Rattle.fx_net.specs.Rows.{put_table, put_rows, put_term, AreEmpty}
use Rattle.fx_sif.specs.Blocks.{height}
use Rattle.fx_sif.specs.Fits.{EntryFits}
use Rattle.fx_sif.specs.Implicit.{Implicit, rows}
use Rattle.fx_sif.specs.Rows.{row_place, net_read, on_the_right, is_read, term_of, is_in_row, net_row, rows_of}
use Rattle.fx_sif.specs.Rows.{put_entry, put_entries}
use Rattle.fx_sif.specs.declared.parts.Block.{Block}
use Rattle.fx_sif.specs.declared.parts.Block.TheVariants.{J, K, L, M, N, P, Q, R, S}
use Rattle.fx_sif.specs.declared.parts.Entry.{Entry}
use Rattle.fx_sif.specs.declared.parts.Sizes.{Sizes}

-- ---- the rows as a list

length-each : (n : ℕ) (f : ℕ → List NetTerm) → length (joined n (λ r. f r ∷ [])) ≡ n
length-each zero f = refl
length-each (suc n) f = let before = length-each n f in length-append (joined n (λ r. f r ∷ [])) (f n ∷ [])
    ∙ (omega (arith, before))

pub length-rows : (f : Implicit) → length (rows_of f) ≡ rows f.sizes
length-rows f = length-each (rows f.sizes) (net_row f.sizes f.entries)

each-is : (n : ℕ) (f : ℕ → List NetTerm) (r : ℕ) → r < n → get_or (joined n (λ r. f r ∷ [])) r [] ≡ f r
each-is zero f r h = elim h [ ]
each-is (suc n) f r h = by_place (cases_eq r n) (each-is n f r)
  where
    rest : List (List NetTerm)
    rest = joined n (λ r. f r ∷ [])

    by_place : (r ≡ n) ⊎ (r ≡ n → ⊥) → (r < n → get_or rest r [] ≡ f r) → get_or (rest ++ f n ∷ []) r [] ≡ f r
    by_place (inl a) before = ap (λ p. get_or (rest ++ f n ∷ []) p []) (a ∙ sym (length-each n f))
        ∙ get_or-append_seam rest (f n) [] [] ∙ ap f (sym a)
    by_place (inr a) before = get_or_append_left rest (f n ∷ []) [] r (omega (arith, a, h, length-each n f))
        ∙ before (omega (arith, a, h))

pub row-rows : (f : Implicit) (r : ℕ) → r < rows f.sizes → row_of (rows_of f) r ≡ net_row f.sizes f.entries r
unfolding row_of
row-rows f r h = each-is (rows f.sizes) (net_row f.sizes f.entries) r h

-- ---- one table of a net

-- a table takes a term where the term's row and source are
abbrev Takes : (Net → ℕ → ℕ → Fraction) → (ℕ → ℕ → NetRead → Bool) → Type 0
Takes table reads = (at r : ℕ) (c : Fraction) (from : NetRead) (net : Net) (i j : ℕ) →
    table (put_term at r c from net) i j ≡ cond (eqb i (at + r) && reads at j from) (plain c) (table net i j)

no_second : (b : Bool) (x y : Fraction) → y ≡ cond (b && false) x y
no_second true x y = refl
no_second false x y = refl

now-takes : Takes (λ net. net.now) reads_now
now-takes at r c (Now s) net i j = refl
now-takes at r c (Old s) net i j = no_second (eqb i (at + r)) (plain c) (net.now i j)
now-takes at r c (In s) net i j = no_second (eqb i (at + r)) (plain c) (net.now i j)

old-takes : Takes (λ net. net.old) reads_old
old-takes at r c (Now s) net i j = no_second (eqb i (at + r)) (plain c) (net.old i j)
old-takes at r c (Old s) net i j = refl
old-takes at r c (In s) net i j = no_second (eqb i (at + r)) (plain c) (net.old i j)

input-takes : Takes (λ net. net.input) (λ at j from. reads_input j from)
input-takes at r c (Now s) net i j = no_second (eqb i (at + r)) (plain c) (net.input i j)
input-takes at r c (Old s) net i j = no_second (eqb i (at + r)) (plain c) (net.input i j)
input-takes at r c (In s) net i j = refl

-- an entry's row is one of the form's
pub place_below : (s : Sizes) (block : Block) (i : ℕ) → i < height s block → row_place s block i < rows s
place_below s J i h = omega arith
place_below s K i h = omega arith
place_below s L i h = omega arith
place_below s M i h = omega arith
place_below s N i h = omega arith
place_below s P i h = omega arith
place_below s Q i h = omega arith
place_below s R i h = omega arith
place_below s S i h = omega arith

same_shift : (at r place : ℕ) → eqb (at + r) (at + place) ≡ eqb place r
same_shift at r place = by_place (cases_eq place r)
  where
    by_place : (place ≡ r) ⊎ (place ≡ r → ⊥) → eqb (at + r) (at + place) ≡ eqb place r
    by_place (inl a) = eq-eqb (at + r) (at + place) (omega (arith, a)) ∙ sym (eq-eqb place r a)
    by_place (inr a) = ne_eqb (at + r) (at + place) (λ same. a (omega (arith, same))) ∙ sym (ne_eqb place r a)

module _ (table : Net → ℕ → ℕ → Fraction) (reads : ℕ → ℕ → NetRead → Bool) (takes : Takes table reads) where
  -- what an entry changes in a row
  entry_is : (s : Sizes) (at : ℕ) (e : Entry) (net : Net) (r j : ℕ) →
      table (put_entry s at e net) (at + r) j
      ≡ cond (is_in_row s r e && reads at j (net_read s e.block e.j)) (plain (on_the_right e.block e.coef))
      (table net (at + r) j)
  entry_is s at e net r j = by_test (is_read e.block e.i e.j)
    where
      by_test : (b : Bool) →
          table (cond b (put_term at (row_place s e.block e.i) (on_the_right e.block e.coef)
          (net_read s e.block e.j) net) net) (at + r) j
          ≡ cond ((b && eqb (row_place s e.block e.i) r) && reads at j (net_read s e.block e.j))
          (plain (on_the_right e.block e.coef)) (table net (at + r) j)
      by_test true =
          takes at (row_place s e.block e.i) (on_the_right e.block e.coef) (net_read s e.block e.j) net (at + r) j
          ∙ ap (λ b. cond (b && reads at j (net_read s e.block e.j)) (plain (on_the_right e.block e.coef))
          (table net (at + r) j)) (same_shift at r (row_place s e.block e.i))
      by_test false = refl

  -- what an entry of a row adds to its terms
  term_is : (s : Sizes) (at j : ℕ) (e : Entry) (es : List Entry) (b : Bool) (c : Fraction) →
      coefficient_or (cond (b && reads at j (net_read s e.block e.j)) (plain (on_the_right e.block e.coef)) c)
      (reads at j) (map (term_of s) es)
      ≡ coefficient_or c (reads at j) (map (term_of s) (cond b (e ∷ es) es))
  term_is s at j e es true c = refl
  term_is s at j e es false c = refl

  -- all entries make the row's terms
  row_is : (s : Sizes) (at : ℕ) (es : List Entry) (net : Net) (r j : ℕ) →
      table (put_entries s at es net) (at + r) j ≡ coefficient_or (table net (at + r) j) (reads at j) (net_row s es r)
  row_is s at [] net r j = refl
  row_is s at (e ∷ es) net r j =
      row_is s at es (put_entry s at e net) r j
      ∙ ap (λ c. coefficient_or c (reads at j) (net_row s es r)) (entry_is s at e net r j)
      ∙ term_is s at j e (filter (is_in_row s r) es) (is_in_row s r e) (table net (at + r) j)

  -- an entry leaves what is not a row of the form
  entry_leaves : (s : Sizes) (at : ℕ) (e : Entry) (net : Net) (i j : ℕ) → EntryFits s e →
      ((r : ℕ) → r < rows s → i ≡ at + r → ⊥) →
      table (put_entry s at e net) i j ≡ table net i j
  entry_leaves s at e net i j fits apart = by_test (is_read e.block e.i e.j)
    where
      by_test : (b : Bool) → table
          (cond b (put_term at (row_place s e.block e.i) (on_the_right e.block e.coef)
          (net_read s e.block e.j) net) net) i j ≡ table net i j
      by_test true =
          takes at (row_place s e.block e.i) (on_the_right e.block e.coef) (net_read s e.block e.j) net i j
          ∙ cond-false _ _ _ (and_left _ _ (ne_eqb i (at + row_place s e.block e.i) (apart (row_place s e.block e.i)
          (place_below s e.block e.i fits.row))))
      by_test false = refl

  entries_leave : (s : Sizes) (at : ℕ) (es : List Entry) (net : Net) (i j : ℕ) → All (EntryFits s) es →
      ((r : ℕ) → r < rows s → i ≡ at + r → ⊥) →
      table (put_entries s at es net) i j ≡ table net i j
  entries_leave s at [] net i j fits apart = refl
  entries_leave s at (e ∷ es) net i j fits apart =
      entries_leave s at es (put_entry s at e net) i j (All-tail (EntryFits s) e es fits) apart
      ∙ entry_leaves s at e net i j (All-head (EntryFits s) e es fits) apart

  -- the whole table
  table_is : (f : Implicit) (at : ℕ) (net : Net) → All (EntryFits f.sizes) f.entries →
      ((i j : ℕ) → at ≤ i → i < at + rows f.sizes → table net i j ≡ zero_fraction) →
      table (put_entries f.sizes at f.entries net) ≡ put_table (reads at) (rows_of f) at (table net)
  table_is f at net fits empty =
      fun_ext (λ i. fun_ext (λ j. by_place i j (cases_lt i at) (cases_lt i (at + rows f.sizes))))
    where
      by_place : (i j : ℕ) → (i < at) ⊎ (at ≤ i) → (i < at + rows f.sizes) ⊎ (at + rows f.sizes ≤ i) →
          table (put_entries f.sizes at f.entries net) i j ≡ put_table (reads at) (rows_of f) at (table net) i j
      by_place i j (inl l) _ =
          entries_leave f.sizes at f.entries net i j fits (λ r h same. omega arith)
          ∙ sym (cond-false _ _ _ (and_left _ _ (lt-leb at i l)))
      by_place i j (inr l) (inr h) =
          entries_leave f.sizes at f.entries net i j fits (λ r k same. omega arith)
          ∙ sym (cond-false _ _ _ (and_right _ _ (le-ltb i (at + length (rows_of f)) (omega
          (arith, h, length-rows f)))))
      by_place i j (inr l) (inl h) =
          let same : at + (i - at) ≡ i = omega arith in
          let below : i - at < rows f.sizes = omega arith in
          ap (λ p. table (put_entries f.sizes at f.entries net) p j) (sym same)
          ∙ row_is f.sizes at f.entries net (i - at) j
          ∙ ap (λ c. coefficient_or c (reads at j) (net_row f.sizes f.entries (i - at)))
          (ap (λ p. table net p j) same ∙ empty i j l h)
          ∙ ap (λ ts. coefficient (reads at j) ts) (sym (row-rows f (i - at) below))
          ∙ sym (cond-true _ _ _ (and_from _ _ (le-leb at i l) (lt-ltb i (at + length (rows_of f)) (omega
          (arith, h, length-rows f)))))

-- ---- the whole net

-- classes and the count of rows stay
entry_keeps : (s : Sizes) (at : ℕ) (e : Entry) (net : Net) →
    ((put_entry s at e net).class ≡ net.class) × ((put_entry s at e net).rows ≡ net.rows)
entry_keeps s at e net = by_test (is_read e.block e.i e.j) (net_read s e.block e.j)
  where
    by_test : (b : Bool) (from : NetRead) →
        ((cond b (put_term at (row_place s e.block e.i) (on_the_right e.block e.coef) from net) net).class ≡ net.class)
        × ((cond b (put_term at (row_place s e.block e.i) (on_the_right e.block e.coef) from net) net).rows ≡ net.rows)
    by_test true (Now j) = (refl, refl)
    by_test true (Old j) = (refl, refl)
    by_test true (In j) = (refl, refl)
    by_test false from = (refl, refl)

entries_keep : (s : Sizes) (at : ℕ) (es : List Entry) (net : Net) →
    ((put_entries s at es net).class ≡ net.class) × ((put_entries s at es net).rows ≡ net.rows)
entries_keep s at [] net = (refl, refl)
entries_keep s at (e ∷ es) net =
    let rest = entries_keep s at es (put_entry s at e net) in
    let first = entry_keeps s at e net in
    (rest.0 ∙ first.0, rest.1 ∙ first.1)

-- empty rows have class 0
class_is : (at count : ℕ) (net : Net) → ((i : ℕ) → at ≤ i → i < at + count → net.class i ≡ 0) →
    net.class ≡ (λ i. cond (is_within at count i) 0 (net.class i))
class_is at count net empty = fun_ext (λ i. by_place i (cases_lt i at) (cases_lt i (at + count)))
  where
    by_place : (i : ℕ) → (i < at) ⊎ (at ≤ i) → (i < at + count) ⊎ (at + count ≤ i) →
        net.class i ≡ cond (is_within at count i) 0 (net.class i)
    by_place i (inl l) _ = sym (cond-false _ _ _ (and_left _ _ (lt-leb at i l)))
    by_place i (inr l) (inr h) = sym (cond-false _ _ _ (and_right _ _ (le-ltb i (at + count) h)))
    by_place i (inr l) (inl h) = empty i l h
        ∙ sym (cond-true _ _ _ (and_from _ _ (le-leb at i l) (lt-ltb i (at + count) h)))

-- nets are equal where their parts are
abbrev made : ℕ → (ℕ → ℕ → Fraction) → (ℕ → ℕ → Fraction) → (ℕ → ℕ → Fraction) → (ℕ → ℕ) → Net
made n now old input class = record { rows = n; now = now; old = old; input = input; class = class }

same_net : (n m : ℕ) (now now' old old' input input' : ℕ → ℕ → Fraction) (class class' : ℕ → ℕ) → n ≡ m → now ≡ now' →
    old ≡ old' → input ≡ input' → class ≡ class' →
    made n now old input class ≡ made m now' old' input' class'
same_net n m now now' old old' input input' class class' a b c d e = rw (a, b, c, d, e) refl

pub entries_make_rows : (f : Implicit) (at : ℕ) (net : Net) → All (EntryFits f.sizes) f.entries →
    AreEmpty at (rows f.sizes) net → put_entries f.sizes at f.entries net ≡ put_rows (rows_of f) at net
unfolding put_rows
entries_make_rows f at net fits empty =
    let keeps = entries_keep f.sizes at f.entries net in
    same_net _ _ _ _ _ _ _ _ _ _
    keeps.1
    (table_is (λ net. net.now) reads_now now-takes f at net fits empty.now)
    (table_is (λ net. net.old) reads_old old-takes f at net fits empty.old)
    (table_is (λ net. net.input) (λ at j from. reads_input j from) input-takes f at net fits empty.input)
    (keeps.0 ∙ class_is at (rows f.sizes) net empty.class
    ∙ ap (λ n i. cond (is_within at n i) 0 (net.class i)) (sym (length-rows f)))
