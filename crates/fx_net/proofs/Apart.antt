-- Terms that differ read different sources in the net.
use Rattle.std.proofs.Common.{◌≡◌, ℕ, zero, suc, ◌+◌, ◌-◌, ◌<◌, ◌≤◌, ◌⊎◌, List, [], ◌∷◌, arith, refl, ap, sym}
use Rattle.std.proofs.Common.{◌∙◌, inl, inr, All, true, false, eqb}
use Rattle.std.specs.Prelude.{unsigned_abs}
use Rattle.std.specs.List.{IsDistinct}
use Rattle.std.proofs.lemmas.Bool.{cases_eq, cases_lt, eq-eqb, and_from, cond-false, not-true}
use Rattle.std.proofs.lemmas.List.Elements.{All-head, All-tail}
use Rattle.std.proofs.lemmas.Map.Keys.{IsDistinct-tail}
use Rattle.fx_math.specs.Sums.{sum_below}
use Rattle.fx_eqs.proofs.Distinct.{distinct_head}
use Rattle.fx_eqs.specs.Equations.{Equations, is_kept}
use Rattle.fx_eqs.specs.Expanded.{net_read, row_place}
use Rattle.fx_eqs.specs.Expanded.NetRead.{Old}
use Rattle.fx_eqs.specs.Faults.{is_same_read}
use Rattle.fx_eqs.specs.Fits.{TermFits}
use Rattle.fx_eqs.specs.Lags.{greatest_lag, same_source}
use Rattle.fx_eqs.specs.declared.term.Source.{Source}
use Rattle.fx_eqs.specs.declared.term.Source.TheVariants.{Row, In as Input}
use Rattle.fx_eqs.specs.declared.term.Term.{Term}
use Rattle.fx_net.specs.Layout.{IsRead}
use Rattle.fx_net.specs.Net.{plain}
use Rattle.fx_net.proofs.Coefficients.{NotRead, AreOnce}
use Rattle.fx_net.proofs.Positions.{sum_within, input_hold_before}
use Rattle.fx_net.proofs.Sources.{net_terms, takes, passes_over}

-- ---- places differ

-- a place in consecutive parts tells the part and the place in it
same_part : (f : ℕ → ℕ) (i j l m : ℕ) → l < f i → m < f j → sum_below i f + l ≡ sum_below j f + m → i ≡ j
same_part f i j l m h k e =
    elim (cases_lt i j) [
      | inl below ↦ let w = sum_within f j i below in absurd (omega arith)
      | inr from ↦ by_other (cases_lt j i) from
    ]
  where
    by_other : (j < i) ⊎ (i ≤ j) → j ≤ i → i ≡ j
    by_other (inl below) from = let w = sum_within f i j below in absurd (omega arith)
    by_other (inr upto) from = omega arith

same_place : (f : ℕ → ℕ) (i j l m : ℕ) → i ≡ j → sum_below i f + l ≡ sum_below j f + m → l ≡ m
same_place f i j l m e h = let p = ap (λ n. sum_below n f) e in omega arith

-- the same source and lag
abbrev pub IsSame : Source → ℕ → Source → ℕ → Type 0
IsSame a l b m = (same_source a b ≡ true) × (l ≡ m)

old_is : (a b : ℕ) → Old a ≡ Old b → a ≡ b
old_is a b e = cc

-- reads of a system that are read from the same place are the same
pub same_reads : (s : Equations) (a : Source) (l : ℕ) (b : Source) (m : ℕ) → IsRead s a l → IsRead s b m →
    net_read s a l ≡ net_read s b m → IsSame a l b m
same_reads s (Input i) zero (Input j) zero r t e = let same : i ≡ j = cc in (eq-eqb i j same, refl)
same_reads s (Input i) (suc l) (Input j) (suc m) r t e =
    let p = old_is _ _ e in
    let h : l < greatest_lag (Input i) s.terms = let x = r.lag in omega arith in
    let k : m < greatest_lag (Input j) s.terms = let x = t.lag in omega arith in
    let same : i ≡ j = same_part (λ j. greatest_lag (Input j) s.terms) i j l m h k p in
    (eq-eqb i j same, ap suc (same_place (λ j. greatest_lag (Input j) s.terms) i j l m same p))
same_reads s (Input i) (suc l) (Row j) (suc zero) r t e =
    let p = old_is _ _ e in
    let h = input_hold_before s i l r.source (let x = r.lag in omega arith) in
    absurd (omega arith)
same_reads s (Input i) (suc l) (Row j) (suc (suc m)) r t e =
    let p = old_is _ _ e in
    let h = input_hold_before s i l r.source (let x = r.lag in omega arith) in
    absurd (omega arith)
same_reads s (Row i) zero (Row j) zero r t e = let p : row_place s i ≡ row_place s j = cc in let same : i ≡ j =
    omega arith in (eq-eqb i j same, refl)
same_reads s (Row i) (suc zero) (Row j) (suc zero) r t e = let p = old_is _ _ e in let same : i ≡ j =
    omega arith in (eq-eqb i j same, refl)
same_reads s (Row i) (suc zero) (Input j) (suc m) r t e =
    let p = old_is _ _ e in
    let h = input_hold_before s j m t.source (let x = t.lag in omega arith) in
    absurd (omega arith)
same_reads s (Row i) (suc zero) (Row j) (suc (suc m)) r t e = let p = old_is _ _ e in let h : i < s.rows =
    r.source in absurd (omega arith)
same_reads s (Row i) (suc (suc l)) (Input j) (suc m) r t e =
    let p = old_is _ _ e in
    let h = input_hold_before s j m t.source (let x = t.lag in omega arith) in
    absurd (omega arith)
same_reads s (Row i) (suc (suc l)) (Row j) (suc zero) r t e = let p = old_is _ _ e in let h : j < s.rows =
    t.source in absurd (omega arith)
same_reads s (Row i) (suc (suc l)) (Row j) (suc (suc m)) r t e =
    let p = old_is _ _ e in
    let p' : sum_below i (λ j. greatest_lag (Row j) s.terms - 1) + l
    ≡ sum_below j (λ j. greatest_lag (Row j) s.terms - 1) + m = omega arith in
    let h : l < greatest_lag (Row i) s.terms - 1 = let x = r.lag in omega arith in
    let k : m < greatest_lag (Row j) s.terms - 1 = let x = t.lag in omega arith in
    let same : i ≡ j = same_part (λ j. greatest_lag (Row j) s.terms - 1) i j l m h k p' in
    (eq-eqb i j same, ap (λ n. suc (suc n)) (same_place (λ j. greatest_lag (Row j) s.terms - 1) i j l m same p'))
same_reads s (Input i) zero (Input j) (suc m) r t e = cc
same_reads s (Input i) zero (Row j) zero r t e = cc
same_reads s (Input i) zero (Row j) (suc zero) r t e = cc
same_reads s (Input i) zero (Row j) (suc (suc m)) r t e = cc
same_reads s (Input i) (suc l) (Input j) zero r t e = cc
same_reads s (Input i) (suc l) (Row j) zero r t e = cc
same_reads s (Row i) zero (Input j) zero r t e = cc
same_reads s (Row i) zero (Input j) (suc m) r t e = cc
same_reads s (Row i) zero (Row j) (suc zero) r t e = cc
same_reads s (Row i) zero (Row j) (suc (suc m)) r t e = cc
same_reads s (Row i) (suc zero) (Input j) zero r t e = cc
same_reads s (Row i) (suc zero) (Row j) zero r t e = cc
same_reads s (Row i) (suc (suc l)) (Input j) zero r t e = cc
same_reads s (Row i) (suc (suc l)) (Row j) zero r t e = cc

-- ---- the terms of a row

-- a term that is there
pub record Stands (s : Equations) (t : Term) : Type 0 where
  pub read : IsRead s t.from t.lag
  pub fits : TermFits s.rows s.inputs t

kept_plain : (t : Term) → is_kept t ≡ true → plain t.coef ≡ t.coef
kept_plain t e = cond-false _ _ _ (not-true (eqb (unsigned_abs t.coef.num) 0) e)

differ : (s : Equations) (x y : Term) → IsRead s x.from x.lag → IsRead s y.from y.lag → x.row ≡ y.row →
    is_same_read y x ≡ false → net_read s y.from y.lag ≡ net_read s x.from x.lag → ⊥
differ s x y r t rows e same =
    let is = same_reads s x.from x.lag y.from y.lag r t (sym same) in
    let both : is_same_read y x ≡ true =
    and_from _ _ (eq-eqb x.row y.row rows) (and_from _ _ is.0 (eq-eqb x.lag y.lag is.1)) in
    cc

not_read : (s : Equations) (i : ℕ) (x : Term) (ts : List Term) → x.row ≡ i → IsRead s x.from x.lag →
    All (Stands s) ts → All (λ y. is_same_read y x ≡ false) ts →
    NotRead (net_read s x.from x.lag) (net_terms s i ts)
not_read s i x [] e r stands apart = tt
not_read s i x (y ∷ ts) e r stands apart =
    let rest = not_read s i x ts e r (All-tail (Stands s) y ts stands)
    (All-tail (λ y. is_same_read y x ≡ false) y ts apart) in
    elim (cases_eq y.row i) [
      | inl here ↦
          rw (takes s i y ts here) (
            differ s x y r (All-head (Stands s) y ts stands).read (e ∙ sym here)
                (All-head (λ y. is_same_read y x ≡ false) y ts apart),
            rest,
          )
      | inr other ↦ rw (passes_over s i y ts other) rest
    ]

pub terms_once : (s : Equations) (i : ℕ) (ts : List Term) → All (Stands s) ts →
    IsDistinct (λ (e t : Term). is_same_read t e) ts → AreOnce (net_terms s i ts)
terms_once s i [] stands once = tt
terms_once s i (t ∷ ts) stands once =
    let here = All-head (Stands s) t ts stands in
    let later = All-tail (Stands s) t ts stands in
    let rest = terms_once s i ts later (IsDistinct-tail (λ (e t : Term). is_same_read t e) t ts once) in
    let apart = distinct_head (λ (e t : Term). is_same_read t e) t ts once in
    elim (cases_eq t.row i) [
      | inl same ↦ rw (takes s i t ts same) (
        not_read s i t ts same here.read later apart,
        kept_plain t here.fits.coefficient,
        rest,
      )
      | inr other ↦ rw (passes_over s i t ts other) rest
    ]
