-- Rows put one after another are rows put at once.
use Rattle.std.proofs.Common.{◌≡◌, ℕ, zero, suc, ◌+◌, ◌-◌, ◌<◌, ◌≤◌, ◌⊎◌, List, [], ◌∷◌, ◌++◌, length, arith}
use Rattle.std.proofs.Common.{refl, ap, ap₂, sym, ◌∙◌, inl, inr, Bool, false, cond, add-one, length-append}
use mathlib.Core.Path.{fun_ext}
use Rattle.std.proofs.lemmas.Bool.{cases_lt, eq-eqb, ne_eqb, cond-true, cond-false, and_left, and_right}
use Rattle.std.proofs.lemmas.Bool.{and_from, lt-ltb, le-ltb, lt-leb, le-leb}
use Rattle.fx_math.specs.Sums.{joined}
use Rattle.fx_nums.specs.Fraction.{Fraction, one_fraction, zero_fraction}
use Rattle.fx_eqs.specs.Equations.{Equations}
use Rattle.fx_eqs.specs.Expanded.{NetRead, NetTerm, hold_rows, expanded, row_place}
use Rattle.fx_eqs.specs.Expanded.NetRead.{Now, Old, In}
use Rattle.fx_net.specs.Laws.{RowsStand}
use Rattle.fx_net.specs.Net.{Net, plain}
use Rattle.fx_net.specs.Parts.{input_holds, equations, row_holds}
use Rattle.fx_net.specs.Rows.{reads_now, reads_old, reads_input, coefficient_or, coefficient, row_of, is_within}
use Rattle.fx_net.specs.Rows.{put_table, put_rows, AreEmpty, put_term, put_terms, put_each}
use Rattle.fx_net.proofs.Positions.{row_first, row_later, length-input_holds, length-equations}

-- ---- in steps

pub each_append : (at r n : ℕ) (a b : List (List NetTerm)) (net : Net) → n ≡ r + length a →
    put_each at r (a ++ b) net ≡ put_each at n b (put_each at r a net)
each_append at r n [] b net e = let same : r ≡ n = omega arith in ap (λ m. put_each at m b net) same
each_append at r n (ts ∷ a) b net e = each_append at (r + 1) n a b (put_terms at r ts net) (omega arith)

pub hold_next : (at row left n : ℕ) (from : NetRead) (net : Net) → left ≡ suc n →
    put_each at row (hold_rows from left row) net
    ≡ put_each at (row + 1) (hold_rows (Old row) n (row + 1)) (put_term at row one_fraction from net)
hold_next at row left n from net e = rw e refl

-- one part more of several
pub part_next : (at r m n : ℕ) (f : ℕ → List (List NetTerm)) (before net : Net) → m ≡ r + length (joined n f) →
    before ≡ put_each at r (joined n f) net → put_each at m (f n) before ≡ put_each at r (joined (n + 1) f) net
part_next at r m n f before net e h =
    ap (put_each at m (f n)) h ∙ sym (each_append at r m (joined n f) (f n) net e)
    ∙ ap (λ k. put_each at r (joined k f) net) (sym (add-one n))

-- ---- one place of a table

module _ (which : Net → ℕ → ℕ → Fraction) (reads : ℕ → NetRead → Bool) (at : ℕ)
    (here : (r : ℕ) (c : Fraction) (from : NetRead) (net : Net) (i j : ℕ) → i ≡ at + r →
    which (put_term at r c from net) i j ≡ cond (reads j from) (plain c) (which net i j))
    (elsewhere : (r : ℕ) (c : Fraction) (from : NetRead) (net : Net) (i j : ℕ) → (i ≡ at + r → ⊥) →
    which (put_term at r c from net) i j ≡ which net i j) where
  terms_here : (r : ℕ) (ts : List NetTerm) (net : Net) (i j : ℕ) → i ≡ at + r →
      which (put_terms at r ts net) i j ≡ coefficient_or (which net i j) (reads j) ts
  terms_here r [] net i j e = refl
  terms_here r (t ∷ ts) net i j e =
      terms_here r ts (put_term at r t.coef t.from net) i j e
      ∙ ap (λ c. coefficient_or c (reads j) ts) (here r t.coef t.from net i j e)

  terms_elsewhere : (r : ℕ) (ts : List NetTerm) (net : Net) (i j : ℕ) → (i ≡ at + r → ⊥) →
      which (put_terms at r ts net) i j ≡ which net i j
  terms_elsewhere r [] net i j ne = refl
  terms_elsewhere r (t ∷ ts) net i j ne = terms_elsewhere r ts (put_term at r t.coef t.from net) i j ne
      ∙ elsewhere r t.coef t.from net i j ne

  each_before : (r : ℕ) (rows : List (List NetTerm)) (net : Net) (i j : ℕ) → i < at + r →
      which (put_each at r rows net) i j ≡ which net i j
  each_before r [] net i j h = refl
  each_before r (ts ∷ rows) net i j h = each_before (r + 1) rows (put_terms at r ts net) i j (omega arith)
      ∙ terms_elsewhere r ts net i j (λ e. omega arith)

  each_after : (r : ℕ) (rows : List (List NetTerm)) (net : Net) (i j : ℕ) → at + r + length rows ≤ i →
      which (put_each at r rows net) i j ≡ which net i j
  each_after r [] net i j h = refl
  each_after r (ts ∷ rows) net i j h = each_after (r + 1) rows (put_terms at r ts net) i j (omega arith)
      ∙ terms_elsewhere r ts net i j (λ e. omega arith)

  each_here : (r : ℕ) (rows : List (List NetTerm)) (net : Net) (i j l : ℕ) → i ≡ at + r + l → l < length rows →
      which (put_each at r rows net) i j ≡ coefficient_or (which net i j) (reads j) (row_of rows l)
  each_here r [] net i j l e h = absurd (omega arith)
  each_here r (ts ∷ rows) net i j zero e h =
      each_before (r + 1) rows (put_terms at r ts net) i j (omega arith) ∙ terms_here r ts net i j (omega arith)
      ∙ ap (λ ts. coefficient_or (which net i j) (reads j) ts) (sym (row_first ts rows))
  each_here r (ts ∷ rows) net i j (suc l) e h =
      each_here (r + 1) rows (put_terms at r ts net) i j l (omega arith) (omega arith)
      ∙ ap₂ (λ c ts. coefficient_or c (reads j) ts) (terms_elsewhere r ts net i j (λ same. omega arith))
      (sym (row_later ts rows l))

  -- the whole table, where the rows were empty
  pub whole_table : (rows : List (List NetTerm)) (net : Net) →
      ((i j : ℕ) → at ≤ i → i < at + length rows → which net i j ≡ zero_fraction) →
      which (put_each at 0 rows net) ≡ put_table reads rows at (which net)
  whole_table rows net empty =
      fun_ext (λ i. fun_ext (λ j. by_place i j (cases_lt i at) (cases_lt i (at + length rows))))
    where
      outside : (i j : ℕ) → is_within at (length rows) i ≡ false →
          which net i j ≡ put_table reads rows at (which net) i j
      outside i j e = sym (cond-false _ _ _ e)

      by_place : (i j : ℕ) → (i < at) ⊎ (at ≤ i) → (i < at + length rows) ⊎ (at + length rows ≤ i) →
          which (put_each at 0 rows net) i j ≡ put_table reads rows at (which net) i j
      by_place i j (inl below) _ = each_before 0 rows net i j (omega arith)
          ∙ outside i j (and_left _ _ (lt-leb at i below))
      by_place i j (inr from) (inr above) = each_after 0 rows net i j (omega arith)
          ∙ outside i j (and_right _ _ (le-ltb i (at + length rows) above))
      by_place i j (inr from) (inl below) =
          each_here 0 rows net i j (i - at) (omega arith) (omega arith)
          ∙ ap (λ c. coefficient_or c (reads j) (row_of rows (i - at))) (empty i j from below)
          ∙ sym (cond-true _ _ _ (and_from _ _ (le-leb at i from) (lt-ltb i (at + length rows) below)))

-- ---- the three tables

now_here : (at r : ℕ) (c : Fraction) (from : NetRead) (net : Net) (i j : ℕ) → i ≡ at + r →
    (put_term at r c from net).now i j ≡ cond (reads_now at j from) (plain c) (net.now i j)
now_here at r c (Now s) net i j e = rw (eq-eqb i (at + r) e) refl
now_here at r c (Old s) net i j e = refl
now_here at r c (In s) net i j e = refl

now_elsewhere : (at r : ℕ) (c : Fraction) (from : NetRead) (net : Net) (i j : ℕ) → (i ≡ at + r → ⊥) →
    (put_term at r c from net).now i j ≡ net.now i j
now_elsewhere at r c (Now s) net i j ne = rw (ne_eqb i (at + r) ne) refl
now_elsewhere at r c (Old s) net i j ne = refl
now_elsewhere at r c (In s) net i j ne = refl

old_here : (at r : ℕ) (c : Fraction) (from : NetRead) (net : Net) (i j : ℕ) → i ≡ at + r →
    (put_term at r c from net).old i j ≡ cond (reads_old at j from) (plain c) (net.old i j)
old_here at r c (Now s) net i j e = refl
old_here at r c (Old s) net i j e = rw (eq-eqb i (at + r) e) refl
old_here at r c (In s) net i j e = refl

old_elsewhere : (at r : ℕ) (c : Fraction) (from : NetRead) (net : Net) (i j : ℕ) → (i ≡ at + r → ⊥) →
    (put_term at r c from net).old i j ≡ net.old i j
old_elsewhere at r c (Now s) net i j ne = refl
old_elsewhere at r c (Old s) net i j ne = rw (ne_eqb i (at + r) ne) refl
old_elsewhere at r c (In s) net i j ne = refl

input_here : (at r : ℕ) (c : Fraction) (from : NetRead) (net : Net) (i j : ℕ) → i ≡ at + r →
    (put_term at r c from net).input i j ≡ cond (reads_input j from) (plain c) (net.input i j)
input_here at r c (Now s) net i j e = refl
input_here at r c (Old s) net i j e = refl
input_here at r c (In s) net i j e = rw (eq-eqb i (at + r) e) refl

input_elsewhere : (at r : ℕ) (c : Fraction) (from : NetRead) (net : Net) (i j : ℕ) → (i ≡ at + r → ⊥) →
    (put_term at r c from net).input i j ≡ net.input i j
input_elsewhere at r c (Now s) net i j ne = refl
input_elsewhere at r c (Old s) net i j ne = refl
input_elsewhere at r c (In s) net i j ne = rw (ne_eqb i (at + r) ne) refl

-- ---- what terms leave

term_leaves : (at r : ℕ) (c : Fraction) (from : NetRead) (net : Net) →
    ((put_term at r c from net).rows ≡ net.rows) × ((put_term at r c from net).class ≡ net.class)
term_leaves at r c (Now s) net = (refl, refl)
term_leaves at r c (Old s) net = (refl, refl)
term_leaves at r c (In s) net = (refl, refl)

terms_leave : (at r : ℕ) (ts : List NetTerm) (net : Net) →
    ((put_terms at r ts net).rows ≡ net.rows) × ((put_terms at r ts net).class ≡ net.class)
terms_leave at r [] net = (refl, refl)
terms_leave at r (t ∷ ts) net =
    let rest = terms_leave at r ts (put_term at r t.coef t.from net) in
    let here = term_leaves at r t.coef t.from net in
    (rest.0 ∙ here.0, rest.1 ∙ here.1)

each_leaves : (at r : ℕ) (rows : List (List NetTerm)) (net : Net) →
    ((put_each at r rows net).rows ≡ net.rows) × ((put_each at r rows net).class ≡ net.class)
each_leaves at r [] net = (refl, refl)
each_leaves at r (ts ∷ rows) net =
    let rest = each_leaves at (r + 1) rows (put_terms at r ts net) in
    let here = terms_leave at r ts net in
    (rest.0 ∙ here.0, rest.1 ∙ here.1)

-- rows without half steps have none
no_classes : (at count : ℕ) (class : ℕ → ℕ) → ((i : ℕ) → at ≤ i → i < at + count → class i ≡ 0) →
    class ≡ (λ i. cond (is_within at count i) 0 (class i))
no_classes at count class empty = fun_ext (λ i. by_place i (cases_lt i at) (cases_lt i (at + count)))
  where
    by_place : (i : ℕ) → (i < at) ⊎ (at ≤ i) → (i < at + count) ⊎ (at + count ≤ i) →
        class i ≡ cond (is_within at count i) 0 (class i)
    by_place i (inl below) _ = sym (cond-false _ _ _ (and_left _ _ (lt-leb at i below)))
    by_place i (inr from) (inr above) = sym (cond-false _ _ _ (and_right _ _ (le-ltb i (at + count) above)))
    by_place i (inr from) (inl below) = empty i from below
        ∙ sym (cond-true _ _ _ (and_from _ _ (le-leb at i from) (lt-ltb i (at + count) below)))

-- rows put one after another where rows were empty
pub filled : (at : ℕ) (rows : List (List NetTerm)) (net : Net) → AreEmpty at (length rows) net →
    put_each at 0 rows net ≡ put_rows rows at net
unfolding put_rows
filled at rows net empty =
    let leaves = each_leaves at 0 rows net in
    by_fields (put_each at 0 rows net) leaves.0
    (whole_table (λ net. net.now) (reads_now at) at (now_here at) (now_elsewhere at) rows net empty.now)
    (whole_table (λ net. net.old) (reads_old at) at (old_here at) (old_elsewhere at) rows net empty.old)
    (whole_table (λ net. net.input) reads_input at (input_here at) (input_elsewhere at) rows net empty.input)
    (leaves.1 ∙ no_classes at (length rows) net.class empty.class)
  where
    by_fields : (made : Net) → {n : ℕ} {a b c : ℕ → ℕ → Fraction} {h : ℕ → ℕ} → made.rows ≡ n → made.now ≡ a →
        made.old ≡ b → made.input ≡ c → made.class ≡ h →
        made ≡ record { rows = n; now = a; old = b; input = c; class = h }
    by_fields made er ea eb ec eh = rw (← er, ← ea, ← eb, ← ec, ← eh) refl

-- the three parts of an expanded net are the whole
pub three_parts : (at : ℕ) (s : Equations) (net : Net) →
    put_each at (row_place s s.rows) (row_holds s s.rows)
    (put_each at (row_place s 0) (equations s s.rows) (put_each at 0 (input_holds s s.inputs) net))
    ≡ put_each at 0 (expanded s) net
three_parts at s net =
    ap (put_each at (row_place s s.rows) (row_holds s s.rows))
    (sym (each_append at 0 (row_place s 0) (input_holds s s.inputs) (equations s s.rows) net
    (omega (arith, length-input_holds s s.inputs))))
    ∙ sym (each_append at 0 (row_place s s.rows) (input_holds s s.inputs ++ equations s s.rows) (row_holds s s.rows) net
    (omega (
      arith,
      length-append (input_holds s s.inputs) (equations s s.rows),
      length-input_holds s s.inputs,
      length-equations s s.rows,
    )))

-- ---- rows that are put stand there

stands_at : (reads : ℕ → NetRead → Bool) (rows : List (List NetTerm)) (at : ℕ) (entries : ℕ → ℕ →
    Fraction) (r j : ℕ) → r < length rows → put_table reads rows at entries (at + r) j
    ≡ coefficient (reads j) (row_of rows r)
stands_at reads rows at entries r j h =
    cond-true _ _ _ (and_from _ _ (le-leb at (at + r) (omega arith)) (lt-ltb (at + r) (at + length rows) (omega arith)))
    ∙ ap (λ n. coefficient (reads j) (row_of rows n)) (let e : at + r - at ≡ r = omega arith in e)

pub put_rows_stand : RowsStand
unfolding put_rows
put_rows_stand rows at net inside = record {
  inside = inside;
  now = λ r j h l. stands_at (reads_now at) rows at net.now r j h;
  old = λ r j h l. stands_at (reads_old at) rows at net.old r j h;
  input = λ r j h l. stands_at reads_input rows at net.input r j h;
}
