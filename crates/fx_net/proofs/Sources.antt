-- What the terms of an equation system read in its expanded net.
use Rattle.std.proofs.Common.{◌≡◌, ℕ, zero, suc, ◌+◌, ◌-◌, ◌<◌, ◌≤◌, List, [], ◌∷◌, length, get_or, arith, refl}
use Rattle.std.proofs.Common.{sym, subst, All, true, map, filter, ◌==◌}
use Rattle.std.proofs.lemmas.Bool.{eq-eqb, ne_eqb, cond-true}
use Rattle.fx_eqs.specs.declared.limits.TheConstants.{PORTS}
use Rattle.fx_eqs.specs.Equations.{Equations}
use Rattle.fx_eqs.specs.Expanded.{NetTerm, net_read, expanded, row_place}
use Rattle.fx_eqs.specs.Fits.{SourceFits, TermFits, IsThereByThen}
use Rattle.fx_eqs.specs.Lags.{greatest_lag, same_source}
use Rattle.fx_eqs.specs.declared.term.Source.{Source}
use Rattle.fx_eqs.specs.declared.term.Source.TheVariants.{Row, In as Input}
use Rattle.fx_eqs.specs.declared.term.Term.{Term}
use Rattle.fx_net.specs.Layout.{ArePlaces, IsRead}
use Rattle.fx_net.specs.Rows.{ReadFits}
use Rattle.fx_net.proofs.Positions.{sum_within, row_hold_end, input_hold_inside, row_hold_inside, row_inside}

-- ---- what a source at a lag is read from

-- ---- lags

pub same_itself : (from : Source) → same_source from from ≡ true
same_itself (Row i) = eq-eqb i i refl
same_itself (Input j) = eq-eqb j j refl

-- each term's lag is at most the greatest of its source
pub lag_high : (ts : List Term) (k : ℕ) (d : Term) → k < length ts →
    (get_or ts k d).lag ≤ greatest_lag (get_or ts k d).from ts
lag_high [] k d h = absurd (omega arith)
lag_high (t ∷ ts) zero d h = let e = cond-true (same_source t.from t.from) t.lag 0 (same_itself t.from) in omega arith
lag_high (t ∷ ts) (suc k) d h = let rest = lag_high ts k d (omega arith) in omega arith

-- so each term reads what is there
pub item_read : (s : Equations) (k : ℕ) (t : Term) → k < length s.terms → t ≡ get_or s.terms k t →
    SourceFits s.rows s.inputs t.from → IsRead s t.from t.lag
item_read s k t h it there =
    record {
      source = there;
      lag =
          subst (λ (x : Term). x.lag ≤ greatest_lag x.from s.terms) (sym it) (lag_high s.terms k t h);
    }

-- each term keeps the limits
pub item_fits : (s : Equations) (k : ℕ) (t : Term) → All (TermFits s.rows s.inputs) s.terms →
    k < length s.terms → t ≡ get_or s.terms k t → TermFits s.rows s.inputs t
item_fits s k t fits h it = subst (TermFits s.rows s.inputs) (sym it) (fits k t h)

-- ---- what is read is inside the net

pub read_fits : (n at : ℕ) (s : Equations) (i : ℕ) (from : Source) (lag : ℕ) → at + length (expanded s) ≤ n →
    s.inputs ≤ PORTS → IsRead s from lag → IsThereByThen i from lag →
    ReadFits n at (row_place s i) (net_read s from lag)
read_fits n at s i (Input j) zero h few r there = let k : j < s.inputs = r.source in omega arith
read_fits n at s i (Input j) (suc l) h few r there = let k : j < s.inputs = r.source in let m =
    input_hold_inside s j l k (let high = r.lag in omega arith) in omega arith
read_fits n at s i (Row j) zero h few r there = let k : j < i = there refl in omega arith
read_fits n at s i (Row j) (suc zero) h few r there = let m = row_inside s j r.source in omega arith
read_fits n at s i (Row j) (suc (suc l)) h few r there = let m =
    row_hold_inside s j l r.source (let high = r.lag in omega arith) in omega arith

-- ---- places in the tables of a layout

module _ (s : Equations) (a : List ℕ) (first : ℕ) (b : List ℕ) (places : ArePlaces s a first b) (from : Source)
    (lag : ℕ) (read : IsRead s from lag) (j : ℕ) where
  pub input_index : from ≡ Input j → j < s.inputs
  input_index e = rw e at read.source

  pub row_index : from ≡ Row j → j < s.rows
  row_index e = rw e at read.source

  pub input_end : from ≡ Input j → get_or a j 0 + lag ≤ 24
  input_end e =
      let w = sum_within (λ j. greatest_lag (Input j) s.terms) s.inputs j (input_index e) in
      let l : lag ≤ greatest_lag (Input j) s.terms = rw e at read.lag in
      let p = places.inputs j (input_index e) in
      let t = row_hold_end s in
      let f = places.few in
      omega arith

  pub first_end : from ≡ Row j → first + j < 24
  first_end e =
      let i = row_inside s j (row_index e) in
      let f = places.few in
      let p = places.equations in
      omega arith

  pub row_end : from ≡ Row j → get_or b j 0 + lag ≤ 25
  row_end e =
      let w = sum_within (λ j. greatest_lag (Row j) s.terms - 1) s.rows j (row_index e) in
      let l : lag ≤ greatest_lag (Row j) s.terms = rw e at read.lag in
      let p = places.rows j (row_index e) in
      let t = row_hold_end s in
      let f = places.few in
      omega arith

-- ---- the terms of a row

-- those of row i among the terms
abbrev pub net_terms : Equations → ℕ → List Term → List NetTerm
net_terms s i ts = map (λ (t : Term). record { coef = t.coef; from = net_read s t.from t.lag })
    (filter (λ (t : Term). t.row == i) ts)

pub takes : (s : Equations) (i : ℕ) (t : Term) (ts : List Term) → t.row ≡ i →
    net_terms s i (t ∷ ts) ≡ record { coef = t.coef; from = net_read s t.from t.lag } ∷ net_terms s i ts
takes s i t ts e = rw (eq-eqb t.row i e) refl

pub passes_over : (s : Equations) (i : ℕ) (t : Term) (ts : List Term) → (t.row ≡ i → ⊥) →
    net_terms s i (t ∷ ts) ≡ net_terms s i ts
passes_over s i t ts ne = rw (ne_eqb t.row i ne) refl
