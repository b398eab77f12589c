-- Terms in parts: coefficients over the lags of one source, coefficients over sources, and blocks of rows.
use Rattle.std.proofs.Common.{◌≡◌, ℕ, zero, suc, ◌+◌, ◌*◌, ◌-◌, ◌≤◌, ◌<◌, not, false, None, List, [], ◌∷◌, ◌++◌}
use Rattle.std.proofs.Common.{length, length-append, All, refl, arith, ap, eqb}
use Rattle.std.specs.List.{IsDistinct}
use Rattle.std.proofs.Math.Nat.{max-le}
use Rattle.std.proofs.lemmas.Bool.{and_left, and_right, ne_eqb, cond_both}
use Rattle.std.proofs.lemmas.List.Elements.{All-nil, All-cons, All-head, All-tail, All-append, All-weaker}
use Rattle.std.proofs.lemmas.List.Elements.{All-filter, filter_passes}
use Rattle.std.proofs.lemmas.List.Filters.{length-filter_both}
use Rattle.fx_nums.specs.Fraction.{Fraction}
use Rattle.fx_eqs.specs.Equations.{is_kept, kept}
use Rattle.fx_eqs.specs.Faults.{is_same_read, eqs_fault}
use Rattle.fx_eqs.specs.Fits.{SourceFits, IsThereByThen}
use Rattle.fx_math.specs.Sums.{sum_below}
use Rattle.fx_eqs.specs.Lags.{same_source, greatest_lag, net_rows}
use Rattle.fx_eqs.specs.declared.limits.TheConstants.{NET_ROWS, EQUATION_TERMS, LONGEST_LAG}
use Rattle.fx_eqs.specs.Textbook.{summand, over_lags, over_sources}
use Rattle.fx_eqs.specs.declared.term.Source.{Source}
use Rattle.fx_eqs.specs.declared.term.Source.TheVariants.{Row, In}
use Rattle.fx_eqs.specs.declared.term.Term.{Term}
use Rattle.fx_eqs.proofs.Distinct.{AllApart, distinct_nil, distinct_cons, distinct_append, distinct_filter}
use Rattle.fx_eqs.proofs.NoFault.{no_fault}

-- no two terms read the same
abbrev pub Once : List Term → Type 0
Once ts = IsDistinct (λ (e t : Term). is_same_read t e) ts

-- ---- terms that differ

pub other_row : (e t : Term) → e.row < t.row → is_same_read t e ≡ false
other_row e t h = and_left _ _ (ne_eqb e.row t.row (λ same. omega arith))

pub other_source : (e t : Term) → same_source e.from t.from ≡ false → is_same_read t e ≡ false
other_source e t h = and_right (eqb e.row t.row) _ (and_left _ _ h)

pub other_lag : (e t : Term) → (e.lag ≡ t.lag → ⊥) → is_same_read t e ≡ false
other_lag e t h = and_right (eqb e.row t.row) _ (and_right (same_source e.from t.from) _ (ne_eqb e.lag t.lag h))

-- two lists whose terms differ by what they keep
pub apart_by : (P Q : Term → Type 0) → ((e t : Term) → P e → Q t → is_same_read t e ≡ false) →
    (a b : List Term) → All P a → All Q b → AllApart (λ (e t : Term). is_same_read t e) a b
apart_by P Q differ a b p q = λ i d h. λ k c g. differ _ _ (p i d h) (q k c g)

-- ---- coefficients over lags

-- a row's term that reads one source at a lag from low up to high
pub record LagTerm (row : ℕ) (from : Source) (low high : ℕ) (t : Term) : Type 0 where
  pub row_is : t.row ≡ row
  pub from_is : t.from ≡ from
  pub above : low ≤ t.lag
  pub below : t.lag < high

pub lag_terms : (row : ℕ) (from : Source) (lag : ℕ) (cs : List Fraction) (high : ℕ) → lag + length cs ≤ high →
    All (LagTerm row from lag high) (over_lags row from lag cs)
lag_terms row from lag [] high h = All-nil (LagTerm row from lag high)
lag_terms row from lag (c ∷ cs) high h =
    All-cons (LagTerm row from lag high) (summand row c from lag) (over_lags row from (lag + 1) cs)
    (record { row_is = refl; from_is = refl; above = omega arith; below = omega arith })
    (All-weaker (LagTerm row from (lag + 1) high) (LagTerm row from lag high) (λ t l.
    record {
      row_is = l.row_is;
      from_is = l.from_is;
      above = let a = l.above in omega arith;
      below =
          l.below;
    }) (over_lags row from (lag + 1) cs) (lag_terms row from (lag + 1) cs high (omega arith)))

pub lag_terms_once : (row : ℕ) (from : Source) (lag : ℕ) (cs : List Fraction) → Once (over_lags row from lag cs)
lag_terms_once row from lag [] = distinct_nil (λ (e t : Term). is_same_read t e)
lag_terms_once row from lag (c ∷ cs) =
    let first = summand row c from lag in
    let rest = over_lags row from (lag + 1) cs in
    let high = lag + 1 + length cs in
    distinct_cons (λ (e t : Term). is_same_read t e) first rest
    (All-weaker (LagTerm row from (lag + 1) high) (λ t. is_same_read t first ≡ false) (λ t l.
    other_lag first t (λ same. let a = l.above in omega arith)) rest
    (lag_terms row from (lag + 1) cs high (omega arith)))
    (lag_terms_once row from (lag + 1) cs)

pub length-over_lags : (row : ℕ) (from : Source) (lag : ℕ) (cs : List Fraction) →
    length (over_lags row from lag cs) ≡ length cs
length-over_lags row from lag [] = refl
length-over_lags row from lag (c ∷ cs) = ap suc (length-over_lags row from (lag + 1) cs)

-- ---- coefficients over sources

-- a row's term that reads, at one lag, a source of a number from low up to high
pub record SourceTerm (row : ℕ) (from : ℕ → Source) (lag low high : ℕ) (t : Term) : Type 0 where
  pub row_is : t.row ≡ row
  pub lag_is : t.lag ≡ lag
  pub number : ℕ
  pub above : low ≤ number
  pub below : number < high
  pub from_is : t.from ≡ from number

pub source_terms : (row : ℕ) (from : ℕ → Source) (lag j : ℕ) (cs : List Fraction) (high : ℕ) →
    j + length cs ≤ high → All (SourceTerm row from lag j high) (over_sources row from lag j cs)
source_terms row from lag j [] high h = All-nil (SourceTerm row from lag j high)
source_terms row from lag j (c ∷ cs) high h =
    All-cons (SourceTerm row from lag j high) (summand row c (from j) lag) (over_sources row from lag (j + 1) cs)
    (record { row_is = refl; lag_is = refl; number = j; above = omega arith; below = omega arith; from_is = refl })
    (All-weaker (SourceTerm row from lag (j + 1) high) (SourceTerm row from lag j high) (λ t s.
    record {
      row_is = s.row_is;
      lag_is = s.lag_is;
      number = s.number;
      above = let a =
          s.above in omega arith;
      below = s.below;
      from_is = s.from_is;
    }) (over_sources row from lag (j + 1) cs)
    (source_terms row from lag (j + 1) cs high (omega arith)))

-- sources of different numbers are different
abbrev pub AllDiffer : (ℕ → Source) → ℕ → Type 0
AllDiffer from high = (i k : ℕ) → i < k → k < high → same_source (from i) (from k) ≡ false

pub source_terms_once : (row : ℕ) (from : ℕ → Source) (lag j : ℕ) (cs : List Fraction) (high : ℕ) →
    AllDiffer from high → j + length cs ≤ high → Once (over_sources row from lag j cs)
source_terms_once row from lag j [] high differ h = distinct_nil (λ (e t : Term). is_same_read t e)
source_terms_once row from lag j (c ∷ cs) high differ h =
    let first = summand row c (from j) lag in
    let rest = over_sources row from lag (j + 1) cs in
    distinct_cons (λ (e t : Term). is_same_read t e) first rest
    (All-weaker (SourceTerm row from lag (j + 1) high) (λ t. is_same_read t first ≡ false) (λ t s.
    other_source first t (rw (s.from_is) (differ j s.number (let a = s.above in omega arith) s.below))) rest
    (source_terms row from lag (j + 1) cs high (omega arith)))
    (source_terms_once row from lag (j + 1) cs high differ (omega arith))

pub length-over_sources : (row : ℕ) (from : ℕ → Source) (lag j : ℕ) (cs : List Fraction) →
    length (over_sources row from lag j cs) ≡ length cs
length-over_sources row from lag j [] = refl
length-over_sources row from lag j (c ∷ cs) = ap suc (length-over_sources row from lag (j + 1) cs)

-- ---- how many rows the net has

-- where no lag is above a bound, nor is a greatest one
pub lag_low : (source : Source) (most : ℕ) (ts : List Term) → All (λ t. t.lag ≤ most) ts → greatest_lag source ts ≤ most
lag_low source most [] h = omega arith
lag_low source most (t ∷ ts) h =
    let here = All-head (λ (t : Term). t.lag ≤ most) t ts h in
    max-le (cond_both (same_source t.from source) t.lag 0 (λ x. x ≤ most) (λ e. here) (λ e. omega arith))
    (lag_low source most ts (All-tail (λ (t : Term). t.lag ≤ most) t ts h))

-- a sum is at most so many times a bound of its summands
sum_low : (n : ℕ) (f : ℕ → ℕ) (most : ℕ) → ((j : ℕ) → f j ≤ most) → sum_below n f ≤ n * most
sum_low zero f most h = omega arith
sum_low (suc n) f most h = let before = sum_low n f most h in let last = h n in omega arith

-- lags up to most + 1 make at most so many rows
net_low : (rows inputs most : ℕ) (ts : List Term) → All (λ t. t.lag ≤ most + 1) ts →
    net_rows rows inputs ts ≤ inputs * (most + 1) + rows + rows * most
net_low rows inputs most ts h =
    let held = sum_low inputs (λ j. greatest_lag (In j) ts) (most + 1) (λ j. lag_low (In j) (most + 1) ts h) in
    let holds = sum_low rows (λ j. greatest_lag (Row j) ts - 1) most (λ j. let l =
    lag_low (Row j) (most + 1) ts h in omega arith) in
    omega arith

-- ---- blocks

-- a term of a row from low up to high, which reads what is there by then, at lags up to most + 1
pub record TermIn (rows inputs most low high : ℕ) (t : Term) : Type 0 where
  pub above : low ≤ t.row
  pub below : t.row < high
  pub source : SourceFits rows inputs t.from
  pub lag : t.lag ≤ most + 1
  pub causal : IsThereByThen t.row t.from t.lag

-- what a row reads at a lag is there, and is there by then
pub record IsRead (rows inputs row : ℕ) (from : Source) (lag : ℕ) : Type 0 where
  pub fits : SourceFits rows inputs from
  pub causal : IsThereByThen row from lag

-- coefficients over lags are terms of their row
pub lag_term_in : (rows inputs most row : ℕ) (from : Source) (low high : ℕ) → row < rows → high ≤ most + 2 →
    ((lag : ℕ) → low ≤ lag → IsRead rows inputs row from lag) →
    (t : Term) → LagTerm row from low high t → TermIn rows inputs most row (row + 1) t
lag_term_in rows inputs most row from low high h late read t l =
    let there = read t.lag l.above in
    record {
      above = rw (l.row_is) (omega arith);
      below = rw (l.row_is) (omega arith);
      source = rw (l.from_is) there.fits;
      lag = let b = l.below in omega arith;
      causal = rw (l.row_is, l.from_is) there.causal;
    }

-- so are coefficients over sources
pub source_term_in : (rows inputs most row : ℕ) (from : ℕ → Source) (lag low high : ℕ) → row < rows →
    lag ≤ most + 1 → ((i : ℕ) → i < high → IsRead rows inputs row (from i) lag) →
    (t : Term) → SourceTerm row from lag low high t → TermIn rows inputs most row (row + 1) t
source_term_in rows inputs most row from lag low high h late read t s =
    let there = read s.number s.below in
    record {
      above = rw (s.row_is) (omega arith);
      below = rw (s.row_is) (omega arith);
      source = rw (s.from_is) there.fits;
      lag = rw (s.lag_is) late;
      causal = rw (s.row_is, s.from_is, s.lag_is) there.causal;
    }

-- the terms of the rows from low up to high, at most width in a row on the average
pub record Block (rows inputs most width low high : ℕ) (ts : List Term) : Type 0 where
  pub each : All (TermIn rows inputs most low high) ts
  pub once : Once ts
  pub count : low * width + length ts ≤ high * width

module _ (rows inputs most width : ℕ) where
  pub block_nil : (low : ℕ) → Block rows inputs most width low low []
  block_nil low = record {
    each = All-nil (TermIn rows inputs most low low);
    once =
        distinct_nil (λ (e t : Term). is_same_read t e);
    count = omega arith;
  }

  -- the same terms in a longer range of rows
  widened : (low high under over : ℕ) → under ≤ low → high ≤ over → (ts : List Term) →
      All (TermIn rows inputs most low high) ts → All (TermIn rows inputs most under over) ts
  widened low high under over l h ts each =
      All-weaker (TermIn rows inputs most low high) (TermIn rows inputs most under over) (λ t i.
      record {
        above = let a = i.above in omega arith;
        below = let b = i.below in omega arith;
        source =
            i.source;
        lag = i.lag;
        causal = i.causal;
      }) ts each

  -- blocks one behind the other
  pub block_append : (low middle high : ℕ) → low ≤ middle → middle ≤ high → (a b : List Term) →
      Block rows inputs most width low middle a → Block rows inputs most width middle high b →
      Block rows inputs most width low high (a ++ b)
  block_append low middle high l h a b p q = record {
    each = All-append (TermIn rows inputs most low high) a b
        (widened low middle low high (omega arith) h a p.each)
        (widened middle high low high l (omega arith) b q.each);
    once = distinct_append (λ (e t : Term). is_same_read t e) a b p.once q.once
        (apart_by (TermIn rows inputs most low middle) (TermIn rows inputs most middle high) (λ e t i k.
        other_row e t (let x = i.below in let y = k.above in omega arith)) a b p.each q.each);
    count = let x = p.count in let y = q.count in let z = length-append a b in omega arith;
  }

  -- all rows of a system within the limits
  pub block_has_no_fault : 1 ≤ rows → inputs * (most + 1) + rows + rows * most ≤ NET_ROWS →
      most < LONGEST_LAG → rows * width ≤ EQUATION_TERMS → (ts : List Term) →
      Block rows inputs most width 0 rows ts → eqs_fault rows inputs ts ≡ None
  block_has_no_fault some net late many ts b =
      no_fault rows inputs ts (record {
        rows_low = some;
        net = let low = net_low rows inputs most (kept ts)
            (All-filter is_kept (λ t. t.lag ≤ most + 1) ts
            (All-weaker (TermIn rows inputs most 0 rows) (λ t. t.lag ≤ most + 1) (λ t i. i.lag) ts b.each)) in
            omega arith;
        count = let c = b.count in let f = length-filter_both is_kept (λ t. not (is_kept t)) (λ t. refl) ts in
            omega arith;
        fits = λ k d h.
            let i = All-filter is_kept (TermIn rows inputs most 0 rows) ts b.each k d h in
            record {
              coefficient = filter_passes is_kept ts k d h;
              row = i.below;
              source = i.source;
              lag =
                  let l = i.lag in omega arith;
              causal = i.causal;
            };
        once = distinct_filter (λ (e t : Term). is_same_read t e) is_kept ts b.once;
      })
