-- Rows that are put leave the others, and denominators.
use Rattle.std.proofs.Common.{◌≡◌, ℕ, zero, suc, ◌+◌, ◌-◌, ◌<◌, ◌≤◌, false, cond, List, [], ◌∷◌}
use Rattle.std.proofs.Common.{◌++◌, length, All, arith, sym, ◌∙◌, inl, inr, eqb, filter, Bool}
use Rattle.std.proofs.lemmas.Bool.{cases_lt, cond-false, cond_both, and_left, and_right, lt-leb, le-ltb}
use Rattle.std.proofs.lemmas.List.{get_or_past}
use Rattle.std.proofs.lemmas.List.Elements.{All-nil, All-cons, All-head, All-tail, All-append, All-filter, All-map}
use Rattle.fx_math.specs.Sums.{joined}
use Rattle.fx_nums.specs.Fraction.{Fraction, IsWholeOver, is_zero, one_fraction, zero_fraction}
use Rattle.fx_eqs.specs.Denominator.{DividesEach}
use Rattle.fx_eqs.specs.Equations.{Equations}
use Rattle.fx_eqs.specs.Expanded.{NetRead, NetTerm, equation_row, hold_rows, input_hold_place, net_read}
use Rattle.fx_eqs.specs.Expanded.{row_hold_place, row_place}
use Rattle.fx_eqs.specs.Expanded.NetRead.{Old, In}
use Rattle.fx_eqs.specs.Lags.{greatest_lag}
use Rattle.fx_eqs.specs.declared.term.Source.TheVariants.{Row, In as Input}
use Rattle.fx_eqs.specs.declared.term.Term.{Term}
use Rattle.fx_net.specs.Laws.{AreApart, DividesRows, ExpandedRowsAreDivided, NewNetsAreDivided, OtherRowsStay}
use Rattle.fx_net.specs.Laws.{OtherRowsStayEmpty, OtherRowsStillStand, PutRowsAreDivided}
use Rattle.fx_net.specs.Net.{plain}
use Rattle.fx_net.specs.Rows.{IsSameRow, coefficient_or, is_within, put_rows, reads_input, reads_now, reads_old, row_of}

-- ---- rows that stay

outside : (at count i : ℕ) → AreApart i 1 at count → is_within at count i ≡ false
outside at count i (inl before) = and_left _ _ (lt-leb at i (omega arith))
outside at count i (inr behind) = and_right _ _ (le-ltb i (at + count) behind)

-- one row of several that lie apart
one_apart : (place count at others i : ℕ) → place ≤ i → i < place + count → AreApart place count at others →
    AreApart i 1 at others
one_apart place count at others i h l (inl before) = inl (omega arith)
one_apart place count at others i h l (inr behind) = inr (omega arith)

pub other_rows_stay : OtherRowsStay
unfolding put_rows
other_rows_stay rows at i net apart =
    let e = outside at (length rows) i apart in
    record {
      now = λ j. sym (cond-false _ _ _ e);
      old = λ j. sym (cond-false _ _ _ e);
      input =
          λ j. sym (cond-false _ _ _ e);
      class = sym (cond-false _ _ _ e);
    }

pub other_rows_still_stand : OtherRowsStillStand
unfolding put_rows
other_rows_still_stand rows others at place net apart holds = record {
  inside = holds.inside;
  now = λ r j h l. sym ((same r h).now j) ∙ holds.now r j h l;
  old = λ r j h l. sym ((same r h).old j) ∙ holds.old r j h l;
  input = λ r j h l. sym ((same r h).input j) ∙ holds.input r j h l;
}
  where
    same : (r : ℕ) → r < length others → IsSameRow (place + r) net (put_rows rows at net)
    same r h = other_rows_stay rows at (place + r) net
        (one_apart place (length others) at (length rows) (place + r) (omega arith) (omega arith) apart)

pub other_rows_stay_empty : OtherRowsStayEmpty
unfolding put_rows
other_rows_stay_empty rows at place count net apart empty = record {
  now = λ i j h l. sym ((same i h l).now j) ∙ empty.now i j h l;
  old = λ i j h l. sym ((same i h l).old j) ∙ empty.old i j h l;
  input = λ i j h l. sym ((same i h l).input j) ∙ empty.input i j h l;
  class = λ i h l. sym (same i h l).class ∙ empty.class i h l;
}
  where
    same : (i : ℕ) → place ≤ i → i < place + count → IsSameRow i net (put_rows rows at net)
    same i h l = other_rows_stay rows at i net (one_apart place count at (length rows) i h l apart)

-- ---- denominators

zero_whole : (q : ℕ) → IsWholeOver q zero_fraction
zero_whole q = omega arith

one_whole : (q : ℕ) → IsWholeOver q one_fraction
one_whole q = omega arith

pub new_nets_are_divided : NewNetsAreDivided
new_nets_are_divided n q h =
    record {
      positive = h;
      now = λ i j l b. zero_whole q;
      old = λ i j l b. zero_whole q;
      input =
          λ i j l b. zero_whole q;
    }

plain_whole : (q : ℕ) (c : Fraction) → IsWholeOver q c → IsWholeOver q (plain c)
plain_whole q c w = cond_both (is_zero c) zero_fraction c (IsWholeOver q) (λ e. zero_whole q) (λ e. w)

coefficient_whole : (q : ℕ) (reads : NetRead → Bool) (ts : List NetTerm) (c : Fraction) → IsWholeOver q c →
    All (λ (t : NetTerm). IsWholeOver q t.coef) ts → IsWholeOver q (coefficient_or c reads ts)
coefficient_whole q reads [] c w all = w
coefficient_whole q reads (t ∷ ts) c w all =
    let here = All-head (λ (t : NetTerm). IsWholeOver q t.coef) t ts all in
    coefficient_whole q reads ts (cond (reads t.from) (plain t.coef) c)
    (cond_both (reads t.from) (plain t.coef) c (IsWholeOver q) (λ e. plain_whole q t.coef here) (λ e. w))
    (All-tail (λ (t : NetTerm). IsWholeOver q t.coef) t ts all)

row_whole : (q : ℕ) (rows : List (List NetTerm)) (r : ℕ) → DividesRows q rows →
    All (λ (t : NetTerm). IsWholeOver q t.coef) (row_of rows r)
unfolding row_of
row_whole q rows r all = elim (cases_lt r (length rows)) [
  | inl inside ↦ all r [] inside
  | inr past ↦ rw (get_or_past rows r [] past) (All-nil (λ (t : NetTerm). IsWholeOver q t.coef))
]

pub put_rows_are_divided : PutRowsAreDivided
unfolding put_rows
put_rows_are_divided rows at q net den all = record {
  positive = den.positive;
  now = λ i j h l. cond_both (is_within at (length rows) i) _ (net.now i j) (IsWholeOver q) (λ e.
      put (reads_now at j) (i - at)) (λ e. den.now i j h l);
  old = λ i j h l. cond_both (is_within at (length rows) i) _ (net.old i j) (IsWholeOver q) (λ e.
      put (reads_old at j) (i - at)) (λ e. den.old i j h l);
  input = λ i j h l. cond_both (is_within at (length rows) i) _ (net.input i j) (IsWholeOver q) (λ e.
      put (reads_input j) (i - at)) (λ e. den.input i j h l);
}
  where
    put : (reads : NetRead → Bool) (r : ℕ) → IsWholeOver q (coefficient_or zero_fraction reads (row_of rows r))
    put reads r = coefficient_whole q reads (row_of rows r) zero_fraction (zero_whole q) (row_whole q rows r all)

-- ---- of expanded rows

abbrev AreWhole : ℕ → List NetTerm → Type 0
AreWhole q ts = All (λ (t : NetTerm). IsWholeOver q t.coef) ts

joined_whole : (q n : ℕ) (f : ℕ → List (List NetTerm)) → ((j : ℕ) → DividesRows q (f j)) → DividesRows q (joined n f)
joined_whole q zero f each = All-nil (AreWhole q)
joined_whole q (suc n) f each = All-append (AreWhole q) (joined n f) (f n) (joined_whole q n f each) (each n)

holds_whole : (q : ℕ) (from : NetRead) (count place : ℕ) → DividesRows q (hold_rows from count place)
holds_whole q from zero place = All-nil (AreWhole q)
holds_whole q from (suc count) place =
    All-cons (AreWhole q) (record { coef = one_fraction; from = from } ∷ []) (hold_rows (Old place) count (place + 1))
    (All-cons (λ (t : NetTerm). IsWholeOver q t.coef) (record { coef = one_fraction; from = from }) []
    (one_whole q) (All-nil (λ (t : NetTerm). IsWholeOver q t.coef)))
    (holds_whole q (Old place) count (place + 1))

equation_whole : (q : ℕ) (s : Equations) (i : ℕ) → DividesEach q s.terms → AreWhole q (equation_row s i)
equation_whole q s i all =
    All-map (λ (t : NetTerm). IsWholeOver q t.coef) (λ (t : Term).
    record { coef = t.coef; from = net_read s t.from t.lag }) (filter (λ (t : Term). eqb t.row i) s.terms)
    (All-filter (λ (t : Term). eqb t.row i) (λ (t : Term). IsWholeOver q t.coef) s.terms all)

pub expanded_rows_are_divided : ExpandedRowsAreDivided
expanded_rows_are_divided s q all =
    let inputs = joined s.inputs (λ j. hold_rows (In j) (greatest_lag (Input j) s.terms) (input_hold_place s j)) in
    let rows = joined s.rows (λ i. equation_row s i ∷ []) in
    let holds = joined s.rows (λ j.
    hold_rows (Old (row_place s j)) (greatest_lag (Row j) s.terms - 1) (row_hold_place s j)) in
    All-append (AreWhole q) (inputs ++ rows) holds
    (All-append (AreWhole q) inputs rows
    (joined_whole q s.inputs _ (λ j. holds_whole q (In j) (greatest_lag (Input j) s.terms) (input_hold_place s j)))
    (joined_whole q s.rows _ (λ i.
    All-cons (AreWhole q) (equation_row s i) [] (equation_whole q s i all) (All-nil (AreWhole q)))))
    (joined_whole q s.rows _ (λ j.
    holds_whole q (Old (row_place s j)) (greatest_lag (Row j) s.terms - 1) (row_hold_place s j)))
