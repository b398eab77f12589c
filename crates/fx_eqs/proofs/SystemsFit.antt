-- What the tests refuse not, fits.
use Rattle.std.proofs.Common.{◌≡◌, ℕ, ◌<◌, ◌≤◌, Bool, true, false, cond, List, [], ◌∷◌, ◌++◌, length, All}
use Rattle.std.proofs.Common.{Option, None, refl, arith, append_assoc, ap, sym, ◌∙◌}
use Rattle.std.specs.List.{IsDistinct, AllByRecursion, list_any}
use Rattle.std.proofs.lemmas.Bool.{or_parts, ltb-false}
use Rattle.std.proofs.lemmas.Bool.Decides.{nat_tests}
use Rattle.std.proofs.lemmas.List.Elements.{All-nil, All-cons, All-head, All-tail, All-weaker, filter-append}
use Rattle.fx_eqs.specs.Equations.{is_kept, kept}
use Rattle.fx_math.proofs.Faults.{if_none, or_none}
use Rattle.fx_math.proofs.Orders.{not_le, not_zero}
use Rattle.fx_eqs.specs.Faults.{source_fault, is_forward_read, is_same_read, kept_term_fault, term_fault}
use Rattle.fx_eqs.specs.Faults.{terms_fault, eqs_fault}
use Rattle.fx_eqs.specs.Fits.{SourceFits, IsThereByThen, TermFits, EquationsFit}
use Rattle.fx_eqs.specs.Lags.{greatest_lag, net_rows}
use Rattle.fx_eqs.specs.declared.limits.TheConstants.{PORTS, NET_ROWS, EQUATION_TERMS, LONGEST_LAG}
use Rattle.fx_eqs.specs.declared.term.Source.{Source}
use Rattle.fx_eqs.specs.declared.term.Source.TheVariants.{Row, In}
use Rattle.fx_eqs.specs.declared.term.Term.{Term}
use Rattle.fx_eqs.specs.declared.fault.EqsFault.{EqsFault}
use Rattle.fx_eqs.proofs.Parts.{lag_low}

-- ---- what no fault means

source_none : (rows inputs place : ℕ) (from : Source) (rest : Option EqsFault) →
    source_fault rows inputs place from rest ≡ None → SourceFits rows inputs from × (rest ≡ None)
source_none rows inputs place (Row j) rest e =
    let p = if_none _ _ _ e in
    (not_le rows j p.0, p.1)
source_none rows inputs place (In j) rest e =
    let p = if_none _ _ _ e in
    (not_le inputs j p.0, p.1)

there_by_then : (row : ℕ) (from : Source) (lag : ℕ) → is_forward_read row from lag ≡ false → IsThereByThen row from lag
there_by_then row (Row j) lag e = λ zero_lag. grind (arith, nat_tests)
there_by_then row (In j) lag e = tt

record TermPasses (rows inputs : ℕ) (earlier : List Term) (t : Term) : Type 0 where
  fits : is_kept t ≡ true → TermFits rows inputs t
  once : list_any (is_same_read t) (kept earlier) ≡ false

kept_term_none : (rows inputs : ℕ) (earlier : List Term) (t : Term) →
    kept_term_fault rows inputs earlier t ≡ None → TermPasses rows inputs earlier t
kept_term_none rows inputs earlier t e =
    let row = if_none _ _ _ e in
    let source = source_none rows inputs (length earlier) t.from _ row.1 in
    let lag = if_none _ _ _ source.1 in
    let forward = if_none _ _ _ lag.1 in
    let once = if_none _ _ _ forward.1 in
    record {
      fits = λ keeps. record {
        coefficient = keeps;
        row = not_le rows t.row row.0;
        source = source.0;
        lag = ltb-false LONGEST_LAG t.lag lag.0;
        causal = there_by_then t.row t.from t.lag forward.0;
      };
      once = once.0;
    }

-- ---- all terms

-- the kept terms of a list with one in front
kept_cons : (P : List Term → Type 0) (t : Term) (ts : List Term) → (is_kept t ≡ true → P (t ∷ kept ts)) →
    (is_kept t ≡ false → P (kept ts)) → P (kept (t ∷ ts))
kept_cons P t ts y n = by_test (is_kept t) refl
  where
    by_test : (b : Bool) → is_kept t ≡ b → P (cond b (t ∷ kept ts) (kept ts))
    by_test true e = y e
    by_test false e = n e

passes : (rows inputs : ℕ) (earlier : List Term) (t : Term) → is_kept t ≡ true →
    term_fault rows inputs earlier t ≡ None → TermPasses rows inputs earlier t
passes rows inputs earlier t keeps e = kept_term_none rows inputs earlier t (rw keeps at e)

terms_fit : (rows inputs : ℕ) (earlier ts : List Term) → terms_fault rows inputs earlier ts ≡ None →
    All (TermFits rows inputs) (kept ts)
terms_fit rows inputs earlier [] e = All-nil (TermFits rows inputs)
terms_fit rows inputs earlier (t ∷ ts) e =
    let p = or_none _ _ e in
    let rest = terms_fit rows inputs (earlier ++ t ∷ []) ts p.1 in
    kept_cons (All (TermFits rows inputs)) t ts
    (λ keeps. All-cons (TermFits rows inputs) t (kept ts) ((passes rows inputs earlier t keeps p.0).fits keeps) rest)
    (λ drops. rest)

-- a test that no element of a list passes, fails at each
fails_at : (test : Term → Bool) (before after : List Term) (e : Term) →
    list_any test (before ++ e ∷ after) ≡ false → test e ≡ false
fails_at test [] after e h = (or_parts (test e) (list_any test after) h).0
fails_at test (b ∷ before) after e h =
    fails_at test before after e (or_parts (test b) (list_any test (before ++ e ∷ after)) h).1

-- a kept term among the earlier ones differs from all kept ones behind
apart : (rows inputs : ℕ) (earlier before after : List Term) (e : Term) (ts : List Term) →
    kept earlier ≡ before ++ e ∷ after → terms_fault rows inputs earlier ts ≡ None →
    AllByRecursion (λ (t : Term). is_same_read t e ≡ false) (kept ts)
apart rows inputs earlier before after e [] same h = tt
apart rows inputs earlier before after e (t ∷ ts) same h =
    let p = or_none _ _ h in
    let more : kept (earlier ++ t ∷ []) ≡ before ++ e ∷ (after ++ kept (t ∷ [])) =
    filter-append is_kept earlier (t ∷ []) ∙ ap (λ x. x ++ kept (t ∷ [])) same
    ∙ append_assoc before (e ∷ after) (kept (t ∷ [])) in
    let rest = apart rows inputs (earlier ++ t ∷ []) before (after ++ kept (t ∷ [])) e ts more p.1 in
    kept_cons (AllByRecursion (λ (x : Term). is_same_read x e ≡ false)) t ts
    (λ keeps. (
      fails_at (is_same_read t) before after e (ap (list_any (is_same_read t)) (sym same)
          ∙ (passes rows inputs earlier t keeps p.0).once),
      rest,
    ))
    (λ drops. rest)

once_each : (rows inputs : ℕ) (earlier ts : List Term) → terms_fault rows inputs earlier ts ≡ None →
    IsDistinct (λ (e t : Term). is_same_read t e) (kept ts)
unfolding IsDistinct
once_each rows inputs earlier [] e = tt
once_each rows inputs earlier (t ∷ ts) e =
    let p = or_none _ _ e in
    let rest = once_each rows inputs (earlier ++ t ∷ []) ts p.1 in
    kept_cons (IsDistinct (λ (e t : Term). is_same_read t e)) t ts
    (λ keeps.
    let last : kept (earlier ++ t ∷ []) ≡ kept earlier ++ t ∷ [] =
    filter-append is_kept earlier (t ∷ []) ∙ ap (λ b. kept earlier ++ cond b (t ∷ []) []) keeps in
    (apart rows inputs (earlier ++ t ∷ []) (kept earlier) [] t ts last p.1, rest))
    (λ drops. rest)

-- ---- the system

pub system_fits : (rows inputs : ℕ) (terms : List Term) (outputs : List ℕ) → 1 ≤ inputs → inputs ≤ PORTS →
    1 ≤ length outputs → length outputs ≤ PORTS → (1 ≤ rows → All (λ o. o < rows) outputs) →
    eqs_fault rows inputs terms ≡ None →
    EquationsFit (record { rows = rows; inputs = inputs; terms = kept terms; outputs = outputs })
system_fits rows inputs terms outputs inputs_low inputs_high outputs_low outputs_high outputs_below e =
    let each = or_none _ _ e in
    let count = if_none _ _ _ each.1 in
    let net = if_none _ _ _ count.1 in
    let tests = or_parts _ _ net.0 in
    let some = not_zero rows tests.0 in
    record {
      rows_low = some;
      net_high = ltb-false NET_ROWS (net_rows rows inputs (kept terms)) tests.1;
      inputs_low = inputs_low;
      inputs_high = inputs_high;
      terms_high = ltb-false EQUATION_TERMS (length (kept terms)) count.0;
      terms = terms_fit rows inputs [] terms each.0;
      once = once_each rows inputs [] terms each.0;
      outputs_low = outputs_low;
      outputs_high = outputs_high;
      outputs = outputs_below some;
    }

-- ---- what fits

-- is kept
pub all_kept : (rows inputs : ℕ) (ts : List Term) → All (TermFits rows inputs) ts → kept ts ≡ ts
all_kept rows inputs [] fits = refl
all_kept rows inputs (t ∷ ts) fits =
    let here : is_kept t ≡ true = (All-head (TermFits rows inputs) t ts fits).coefficient in
    let rest = all_kept rows inputs ts (All-tail (TermFits rows inputs) t ts fits) in
    ap (λ b. cond b (t ∷ kept ts) (kept ts)) here ∙ ap (λ xs. t ∷ xs) rest

-- and reads no source later than a term may
pub lag_high : (rows inputs : ℕ) (source : Source) (ts : List Term) → All (TermFits rows inputs) ts →
    greatest_lag source ts ≤ LONGEST_LAG
lag_high rows inputs source ts fits =
    lag_low source LONGEST_LAG ts (All-weaker (TermFits rows inputs) (λ t. t.lag ≤ LONGEST_LAG) (λ t f. f.lag) ts fits)
