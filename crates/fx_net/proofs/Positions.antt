-- Where the rows of an expanded net stand.
use Rattle.std.proofs.Common.{◌≡◌, ℕ, zero, suc, ◌+◌, ◌-◌, ◌<◌, ◌≤◌, List, [], ◌∷◌, ◌++◌, length, add-one}
use Rattle.std.proofs.Common.{arith, refl, ap, ap₂, sym, ◌∙◌, inl, inr, length-append}
use Rattle.std.proofs.lemmas.Bool.{cases_lt}
use Rattle.fx_math.specs.Sums.{joined, sum_below}
use Rattle.fx_nums.specs.Fraction.{one_fraction}
use Rattle.fx_eqs.proofs.Expanding.{length-expanded}
use Rattle.fx_eqs.specs.Equations.{Equations}
use Rattle.fx_eqs.specs.Expanded.{NetRead, NetTerm, hold_rows, expanded, equation_row, input_hold_place}
use Rattle.fx_eqs.specs.Expanded.{row_place, row_hold_place}
use Rattle.fx_eqs.specs.Expanded.NetRead.{Old, In}
use Rattle.fx_eqs.specs.Lags.{greatest_lag}
use Rattle.fx_eqs.specs.declared.term.Source.TheVariants.{Row, In as Input}
use Rattle.fx_net.specs.Parts.{input_holds, equations, row_holds}
use Rattle.fx_net.specs.Rows.{row_of}

-- ---- sums below a number

pub sum_within : (f : ℕ → ℕ) (n j : ℕ) → j < n → sum_below j f + f j ≤ sum_below n f
sum_within f zero j h = absurd (omega arith)
sum_within f (suc n) j h =
    elim (cases_lt j n) [
      | inl below ↦ let less = sum_within f n j below in omega arith
      | inr at ↦ let same : j ≡ n = omega arith in rw same (omega arith)
    ]

pub sum_next : (f : ℕ → ℕ) (n : ℕ) → sum_below (n + 1) f ≡ sum_below n f + f n
sum_next f n = rw (add-one n) refl

-- ---- rows in a concatenation

pub row_first : (ts : List NetTerm) (rows : List (List NetTerm)) → row_of (ts ∷ rows) 0 ≡ ts
unfolding row_of
row_first ts rows = refl

pub row_later : (ts : List NetTerm) (rows : List (List NetTerm)) (r : ℕ) → row_of (ts ∷ rows) (suc r) ≡ row_of rows r
unfolding row_of
row_later ts rows r = refl

pub row_left : (a b : List (List NetTerm)) (r : ℕ) → r < length a → row_of (a ++ b) r ≡ row_of a r
row_left [] b r h = absurd (omega arith)
row_left (ts ∷ a) b zero h = row_first ts (a ++ b) ∙ sym (row_first ts a)
row_left (ts ∷ a) b (suc r) h = row_later ts (a ++ b) r ∙ row_left a b r (omega arith) ∙ sym (row_later ts a r)

pub row_right : (a b : List (List NetTerm)) (n r : ℕ) → n ≡ length a + r → row_of (a ++ b) n ≡ row_of b r
row_right [] b n r e = let same : n ≡ r = omega arith in rw same refl
row_right (ts ∷ a) b zero r e = absurd (omega arith)
row_right (ts ∷ a) b (suc n) r e = row_later ts (a ++ b) n ∙ row_right a b n r (omega arith)

-- ---- rows of one kind

pub length-hold_rows : (from : NetRead) (count place : ℕ) → length (hold_rows from count place) ≡ count
length-hold_rows from zero place = refl
length-hold_rows from (suc count) place = ap suc (length-hold_rows (Old place) count (place + 1))

-- what the l-th hold row reads
abbrev pub held : NetRead → ℕ → ℕ → NetRead
held from place zero = from
held from place (suc l) = Old (place + l)

pub hold_row : (from : NetRead) (count place l : ℕ) → l < count →
    row_of (hold_rows from count place) l ≡ record { coef = one_fraction; from = held from place l } ∷ []
hold_row from zero place l h = absurd (omega arith)
hold_row from (suc count) place zero h = row_first _ (hold_rows (Old place) count (place + 1))
hold_row from (suc count) place (suc l) h =
    row_later (record { coef = one_fraction; from = from } ∷ []) (hold_rows (Old place) count (place + 1)) l
    ∙ hold_row (Old place) count (place + 1) l (omega arith)
    ∙ ap (λ r. record { coef = one_fraction; from = r } ∷ []) (next l)
  where
    next : (l : ℕ) → held (Old place) (place + 1) l ≡ Old (place + l)
    next zero = ap Old (omega arith)
    next (suc l) = ap Old (omega arith)

pub length-joined : (f : ℕ → List (List NetTerm)) (size : ℕ → ℕ) → ((j : ℕ) → length (f j) ≡ size j) →
    (n : ℕ) → length (joined n f) ≡ sum_below n size
length-joined f size each zero = refl
length-joined f size each (suc n) = length-append (joined n f) (f n)
    ∙ ap₂ (λ a b. a + b) (length-joined f size each n) (each n)

-- row l of the j-th part
pub joined_row : (f : ℕ → List (List NetTerm)) (size : ℕ → ℕ) → ((j : ℕ) → length (f j) ≡ size j) →
    (n j l : ℕ) → j < n → l < size j → row_of (joined n f) (sum_below j size + l) ≡ row_of (f j) l
joined_row f size each zero j l h k = absurd (omega arith)
joined_row f size each (suc n) j l h k =
    elim (cases_lt j n) [
      | inl below ↦
          let inside : sum_below j size + l < length (joined n f) =
          omega (arith, length-joined f size each n, sum_within size n j below) in
          row_left (joined n f) (f n) (sum_below j size + l) inside ∙ joined_row f size each n j l below k
      | inr at ↦
          let same : j ≡ n = omega arith in
          rw same (row_right (joined n f) (f n) (sum_below n size + l) l (omega (arith, length-joined f size each n)))
    ]

-- ---- the rows of an expanded net

module _ (s : Equations) where
  ones : (n : ℕ) → sum_below n (λ i. 1) ≡ n
  ones zero = refl
  ones (suc n) = let before = ones n in omega arith

  pub length-input_holds : (n : ℕ) → length (input_holds s n) ≡ input_hold_place s n
  length-input_holds n = length-joined (λ j.
      hold_rows (In j) (greatest_lag (Input j) s.terms) (input_hold_place s j)) (λ j.
      greatest_lag (Input j) s.terms) (λ j.
      length-hold_rows (In j) (greatest_lag (Input j) s.terms) (input_hold_place s j)) n

  pub length-equations : (n : ℕ) → length (equations s n) ≡ n
  length-equations n = length-joined (λ i. equation_row s i ∷ []) (λ i. 1) (λ i. refl) n ∙ ones n

  pub length-row_holds : (n : ℕ) → length (row_holds s n) ≡ sum_below n (λ j. greatest_lag (Row j) s.terms - 1)
  length-row_holds n = length-joined (λ j.
      hold_rows (Old (row_place s j)) (greatest_lag (Row j) s.terms - 1) (row_hold_place s j)) (λ j.
      greatest_lag (Row j) s.terms - 1) (λ j.
      length-hold_rows (Old (row_place s j)) (greatest_lag (Row j) s.terms - 1) (row_hold_place s j)) n

  -- each part ends where the next begins, and the last one at the end
  pub input_hold_before : (j l : ℕ) → j < s.inputs → l < greatest_lag (Input j) s.terms →
      input_hold_place s j + l < row_place s 0
  input_hold_before j l h k = let w = sum_within (λ j. greatest_lag (Input j) s.terms) s.inputs j h in omega arith

  pub row_hold_end : row_hold_place s s.rows ≡ length (expanded s)
  row_hold_end = sym (length-expanded s)

  pub row_hold_inside : (j l : ℕ) → j < s.rows → l < greatest_lag (Row j) s.terms - 1 →
      row_hold_place s j + l < length (expanded s)
  row_hold_inside j l h k = let w = sum_within (λ j. greatest_lag (Row j) s.terms - 1) s.rows j h in let e =
      row_hold_end in omega arith

  pub row_inside : (i : ℕ) → i < s.rows → row_place s i < length (expanded s)
  row_inside i h = let e = row_hold_end in omega arith

  pub input_hold_inside : (j l : ℕ) → j < s.inputs → l < greatest_lag (Input j) s.terms →
      input_hold_place s j + l < length (expanded s)
  input_hold_inside j l h k = let b = input_hold_before j l h k in let e = row_hold_end in omega arith

  -- what stands there
  pub at_input_hold : (j l : ℕ) → j < s.inputs → l < greatest_lag (Input j) s.terms →
      row_of (expanded s) (input_hold_place s j + l) ≡ record {
        coef = one_fraction;
        from =
            held (In j) (input_hold_place s j) l;
      } ∷ []
  at_input_hold j l h k =
      let b = input_hold_before j l h k in
      let inside : input_hold_place s j + l < length (input_holds s s.inputs) =
      omega (arith, length-input_holds s.inputs) in
      let inside' : input_hold_place s j + l < length ((input_holds s s.inputs) ++ (equations s s.rows)) =
      omega (arith, length-append (input_holds s s.inputs) (equations s s.rows)) in
      row_left ((input_holds s s.inputs) ++ (equations s s.rows)) (row_holds s s.rows) (input_hold_place s j
      + l) inside' ∙ row_left (input_holds s s.inputs) (equations s s.rows) (input_hold_place s j + l) inside
      ∙ joined_row (λ j. hold_rows (In j) (greatest_lag (Input j) s.terms) (input_hold_place s j)) (λ j.
      greatest_lag (Input j) s.terms) (λ j.
      length-hold_rows (In j) (greatest_lag (Input j) s.terms) (input_hold_place s j)) s.inputs j l h k
      ∙ hold_row (In j) (greatest_lag (Input j) s.terms) (input_hold_place s j) l k

  pub at_row : (i : ℕ) → i < s.rows → row_of (expanded s) (row_place s i) ≡ equation_row s i
  at_row i h =
      let inside : row_place s i < length ((input_holds s s.inputs) ++ (equations s s.rows)) =
      omega (
        arith,
        length-append (input_holds s s.inputs) (equations s s.rows),
        length-input_holds s.inputs,
        length-equations s.rows,
      ) in
      let same : i ≡ sum_below i (λ i. 1) + 0 = omega (arith, ones i) in
      row_left ((input_holds s s.inputs) ++ (equations s s.rows)) (row_holds s s.rows) (row_place s i) inside
      ∙ row_right (input_holds s s.inputs) (equations s s.rows) (row_place s i) i
      (omega (arith, length-input_holds s.inputs))
      ∙ ap (row_of (equations s s.rows)) same
      ∙ joined_row (λ i. equation_row s i ∷ []) (λ i. 1) (λ i. refl) s.rows i 0 h (omega arith)
      ∙ row_first (equation_row s i) []

  pub at_row_hold : (j l : ℕ) → j < s.rows → l < greatest_lag (Row j) s.terms - 1 →
      row_of (expanded s) (row_hold_place s j + l) ≡ record {
        coef = one_fraction;
        from =
            held (Old (row_place s j)) (row_hold_place s j) l;
      } ∷ []
  at_row_hold j l h k =
      row_right ((input_holds s s.inputs) ++ (equations s s.rows)) (row_holds s s.rows) (row_hold_place s j
      + l) (sum_below j (λ j. greatest_lag (Row j) s.terms - 1) + l)
      (omega (
        arith,
        length-append (input_holds s s.inputs) (equations s s.rows),
        length-input_holds s.inputs,
        length-equations s.rows,
      ))
      ∙ joined_row (λ j. hold_rows (Old (row_place s j)) (greatest_lag (Row j) s.terms - 1)
      (row_hold_place s j)) (λ j. greatest_lag (Row j) s.terms - 1) (λ j.
      length-hold_rows (Old (row_place s j)) (greatest_lag (Row j) s.terms - 1) (row_hold_place s j)) s.rows
      j l h k
      ∙ hold_row (Old (row_place s j)) (greatest_lag (Row j) s.terms - 1) (row_hold_place s j) l k
