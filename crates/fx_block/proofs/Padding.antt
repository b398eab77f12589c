-- The net of bare rows and, behind them, the expanded rows of equations, with empty rows behind both.
use Rattle.std.proofs.Common.{◌≡◌, ℕ, zero, suc, ◌+◌, ◌-◌, ◌<◌, ◌≤◌, false, List, [], ◌∷◌, ◌++◌, length, map, All}
use Rattle.std.proofs.Common.{filter, eqb, get_or, arith, refl, ap, ◌∙◌, inl, inr}
use Rattle.std.specs.Prelude.{⊤}
use Rattle.std.proofs.lemmas.Bool.{cases_lt, cond-false, cond_both, ne_eqb, and_right, le-ltb}
use Rattle.std.proofs.lemmas.List.{get_or_default, get_or_past, length-map}
use Rattle.std.proofs.lemmas.List.Elements.{All-nil, All-cons, All-head, All-tail, All-append, All-filter, All-map}
use Rattle.std.proofs.lemmas.List.Elements.{All-weaker}
use Rattle.fx_math.specs.Sums.{joined}
use Rattle.fx_nums.specs.Fraction.{one_fraction, zero_fraction}
use Rattle.fx_eqs.specs.Equations.{Equations}
use Rattle.fx_eqs.specs.Expanded.{NetRead, NetTerm, equation_row, expanded, hold_rows, input_hold_place}
use Rattle.fx_eqs.specs.Expanded.{net_read as reads_source, row_hold_place, row_place}
use Rattle.fx_eqs.specs.Expanded.NetRead.{Now, Old, In}
use Rattle.fx_eqs.specs.Fits.{EquationsFit}
use Rattle.fx_eqs.specs.Lags.{greatest_lag}
use Rattle.fx_eqs.specs.declared.term.Source.TheVariants.{Row, In as Input}
use Rattle.fx_eqs.specs.declared.term.Term.{Term}
use Rattle.fx_net.specs.Net.{Net, empty_net}
use Rattle.fx_net.specs.Rows.{AreEmpty, ReadFits, coefficient_or, is_within, put_rows, reads_old, row_of}
use Rattle.fx_net.proofs.Empty.{new_rows_are_empty}
use Rattle.fx_net.proofs.OtherRows.{other_rows_stay_empty}
use Rattle.fx_net.proofs.Positions.{row_hold_end, row_inside, sum_within}
use Rattle.fx_net.proofs.Sources.{item_fits, item_read, read_fits}
use Rattle.fx_code.specs.Code.{BareRow, OldIsThere}
use Rattle.fx_code.specs.NetRows.{net_read, net_row, net_term, put_bare_rows}
use Rattle.fx_code.specs.declared.term.CodeTerm.{CodeTerm}
use Rattle.fx_code.specs.declared.term.Read.{Read}
use Rattle.fx_code.specs.declared.term.Read.TheVariants.{Now as NowRow, Old as OldRow, In as InPort}
use Rattle.fx_totals.specs.Padding.{IsPadded}

-- ---- rows that read rows below n of the moment before

abbrev pub Below : ℕ → NetRead → Type 0
Below n (Now s) = ⊤
Below n (Old s) = s < n
Below n (In s) = ⊤

abbrev pub AreBelow : ℕ → List NetTerm → Type 0
AreBelow n ts = All (λ (t : NetTerm). Below n t.from) ts

abbrev pub RowsBelow : ℕ → List (List NetTerm) → Type 0
RowsBelow n rows = All (AreBelow n) rows

-- they take nothing of a row behind

unread : (at n j : ℕ) (from : NetRead) → at + n ≤ j → Below n from → reads_old at j from ≡ false
unread at n j (Now s) h below = refl
unread at n j (Old s) h below = ne_eqb j (at + s) (λ e. omega arith)
unread at n j (In s) h below = refl

nothing_taken : (at n j : ℕ) (ts : List NetTerm) → at + n ≤ j → AreBelow n ts →
    coefficient_or zero_fraction (reads_old at j) ts ≡ zero_fraction
nothing_taken at n j [] h below = refl
nothing_taken at n j (t ∷ ts) h below =
    ap (λ c. coefficient_or c (reads_old at j) ts)
    (cond-false _ _ _ (unread at n j t.from h (All-head (λ (t : NetTerm). Below n t.from) t ts below)))
    ∙ nothing_taken at n j ts h (All-tail (λ (t : NetTerm). Below n t.from) t ts below)

row_below : (n : ℕ) (rows : List (List NetTerm)) (r : ℕ) → RowsBelow n rows → AreBelow n (row_of rows r)
unfolding row_of
row_below n rows r below = elim (cases_lt r (length rows)) [
  | inl inside ↦ below r [] inside
  | inr past ↦ rw (get_or_past rows r [] past) (All-nil (λ (t : NetTerm). Below n t.from))
]

nothing_put : (rows : List (List NetTerm)) (at n i j : ℕ) (net : Net) → at + n ≤ j → RowsBelow n rows →
    net.old i j ≡ zero_fraction → (put_rows rows at net).old i j ≡ zero_fraction
unfolding put_rows
nothing_put rows at n i j net h below none =
    cond_both (is_within at (length rows) i) _ (net.old i j) (λ c. c ≡ zero_fraction) (λ e.
    nothing_taken at n j (row_of rows (i - at)) h (row_below n rows (i - at) below)) (λ e. none)

-- ---- rows of integer code

there : (n : ℕ) (from : Read) → OldIsThere n from → Below n (net_read from)
there n (NowRow i) h = tt
there n (OldRow i) h = h
there n (InPort j) h = tt

pub bare_row_below : (n : ℕ) (row : BareRow) → All (λ (t : CodeTerm). OldIsThere n t.from) row.terms →
    AreBelow n (net_row row)
bare_row_below n row all =
    All-map (λ (t : NetTerm). Below n t.from) (net_term row.shift) row.terms
    (All-weaker (λ (t : CodeTerm). OldIsThere n t.from) (λ (t : CodeTerm). Below n (net_read t.from)) (λ t h.
    there n t.from h) row.terms all)

-- ---- the expanded rows of equations

holds_below : (n : ℕ) (from : NetRead) (count place : ℕ) → Below n from → place + count ≤ n →
    RowsBelow n (hold_rows from count place)
holds_below n from zero place first room = All-nil (AreBelow n)
holds_below n from (suc count) place first room =
    All-cons (AreBelow n) (record { coef = one_fraction; from = from } ∷ []) (hold_rows (Old place) count (place + 1))
    (All-cons (λ (t : NetTerm). Below n t.from) (record { coef = one_fraction; from = from }) [] first
    (All-nil (λ (t : NetTerm). Below n t.from)))
    (holds_below n (Old place) count (place + 1) (omega arith) (omega arith))

joined_below : (n m : ℕ) (f : ℕ → List (List NetTerm)) → ((j : ℕ) → j < m → RowsBelow n (f j)) →
    RowsBelow n (joined m f)
joined_below n zero f each = All-nil (AreBelow n)
joined_below n (suc m) f each =
    All-append (AreBelow n) (joined m f) (f m) (joined_below n m f (λ j l. each j (omega arith))) (each m (omega arith))

fits_below : (n r : ℕ) (from : NetRead) → ReadFits n 0 r from → Below n from
fits_below n r (Now s) h = tt
fits_below n r (Old s) h = omega arith
fits_below n r (In s) h = tt

module _ (s : Equations) (fits : EquationsFit s) where
  term_below : (k : ℕ) (d : Term) → k < length s.terms →
      Below (length (expanded s)) (reads_source s (get_or s.terms k d).from (get_or s.terms k d).lag)
  term_below k d l =
      let t = get_or s.terms k d in
      let same : t ≡ get_or s.terms k t = get_or_default s.terms k d t l in
      let term = item_fits s k t fits.terms l same in
      fits_below (length (expanded s)) (row_place s t.row) (reads_source s t.from t.lag)
      (read_fits (length (expanded s)) 0 s t.row t.from t.lag (omega arith) fits.inputs_high
      (item_read s k t l same term.source) term.causal)

  equation_below : (i : ℕ) → AreBelow (length (expanded s)) (equation_row s i)
  equation_below i =
      All-map (λ (t : NetTerm). Below (length (expanded s)) t.from) (λ (t : Term).
      record { coef = t.coef; from = reads_source s t.from t.lag }) (filter (λ (t : Term). eqb t.row i) s.terms)
      (All-filter (λ (t : Term). eqb t.row i) (λ (t : Term).
      Below (length (expanded s)) (reads_source s t.from t.lag)) s.terms (λ k d l. term_below k d l))

  pub expanded_below : RowsBelow (length (expanded s)) (expanded s)
  expanded_below =
      let n = length (expanded s) in
      let inputs = joined s.inputs (λ j. hold_rows (In j) (greatest_lag (Input j) s.terms) (input_hold_place s j)) in
      let rows = joined s.rows (λ i. equation_row s i ∷ []) in
      let holds = joined s.rows (λ j.
      hold_rows (Old (row_place s j)) (greatest_lag (Row j) s.terms - 1) (row_hold_place s j)) in
      let end = row_hold_end s in
      All-append (AreBelow n) (inputs ++ rows) holds
      (All-append (AreBelow n) inputs rows
      (joined_below n s.inputs _ (λ j l.
      (let within = sum_within (λ j. greatest_lag (Input j) s.terms) s.inputs j l in
      holds_below n (In j) (greatest_lag (Input j) s.terms) (input_hold_place s j) tt (omega (arith, end, within)))))
      (joined_below n s.rows _ (λ i l.
      All-cons (AreBelow n) (equation_row s i) [] (equation_below i) (All-nil (AreBelow n)))))
      (joined_below n s.rows _ (λ j l.
      (let within = sum_within (λ j. greatest_lag (Row j) s.terms - 1) s.rows j l in
      holds_below n (Old (row_place s j)) (greatest_lag (Row j) s.terms - 1) (row_hold_place s j)
      (row_inside s j l) (omega (arith, end, within)))))

-- ---- the net of both

-- so many rows of code and, behind them, the expanded rows of equations, in a net of n rows
abbrev pub both : ℕ → ℕ → List BareRow → Equations → Net
both n count rows s = put_rows (expanded s) count (put_bare_rows rows 0 (empty_net n))

-- behind the rows of code a new net is still empty
pub rows_leave_empty : (rows : List BareRow) (n place count : ℕ) → length rows ≤ place →
    AreEmpty place count (put_bare_rows rows 0 (empty_net n))
rows_leave_empty rows n place count behind =
    let all : length (map net_row rows) ≡ length rows = length-map rows net_row in
    let left = other_rows_stay_empty (map net_row rows) 0 place count (empty_net n)
    (inr (omega (arith, behind, all))) (new_rows_are_empty place count n) in
    record {
      now = left.now;
      old = left.old;
      input = left.input;
      class = λ i h l. cond-false _ _ _ (and_right _ _ (le-ltb i (0 + length rows) (omega (arith, behind, h))));
    }

pub is_padded : (rows : List BareRow) (s : Equations) (count m n : ℕ) → length rows ≡ count →
    RowsBelow count (map net_row rows) → EquationsFit s → m ≡ count + length (expanded s) → m ≤ n →
    IsPadded (both m count rows s) (both n count rows s)
unfolding put_rows
is_padded rows s count m n long below fits all room = record {
  rows = room;
  unread = λ i j l h. nothing_put (expanded s) count (length (expanded s)) i j (put_bare_rows rows 0 (empty_net m))
      (omega (arith, all, h)) (expanded_below s fits)
      (nothing_put (map net_row rows) 0 count i j (empty_net m) (omega (arith, all, h)) below refl);
  same = λ i l. record { now = λ j. refl; old = λ j. refl; input = λ j. refl; class = refl };
  empty = other_rows_stay_empty (expanded s) count m (n - m) (put_bare_rows rows 0 (empty_net n))
      (inr (omega (arith, all))) (rows_leave_empty rows n m (n - m) (omega (arith, all, long)));
}
