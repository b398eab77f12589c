-- What fits is not refused.
use Rattle.std.proofs.Common.{◌≡◌, ℕ, ◌≤◌, Bool, true, false, cond, List, [], ◌∷◌, ◌++◌, append-nil, length}
use Rattle.std.proofs.Common.{get_or, All, None, Option, refl, arith, ap, ◌∙◌}
use Rattle.std.specs.Option.{option_or}
use Rattle.std.specs.List.{IsDistinct, list_any}
use Rattle.std.proofs.lemmas.Bool.{or_from, lt-leb, le-ltb, ne_eqb}
use Rattle.std.proofs.lemmas.Bool.Decides.{nat_tests}
use Rattle.std.proofs.lemmas.List.Elements.{All-head, All-tail, filter-append}
use Rattle.std.proofs.lemmas.List.Folds.{list_any-append}
use Rattle.std.proofs.lemmas.Map.Keys.{IsDistinct-tail}
use Rattle.fx_eqs.specs.Equations.{is_kept, kept}
use Rattle.fx_math.proofs.Faults.{none_if, none_or}
use Rattle.fx_eqs.specs.Faults.{source_fault, is_forward_read, is_same_read, kept_term_fault, terms_fault, eqs_fault}
use Rattle.fx_eqs.specs.Fits.{SourceFits, IsThereByThen, TermFits}
use Rattle.fx_eqs.specs.Lags.{net_rows}
use Rattle.fx_eqs.specs.Laws.{WhatFitsHasNoFault}
use Rattle.fx_eqs.specs.declared.limits.TheConstants.{NET_ROWS, EQUATION_TERMS, LONGEST_LAG}
use Rattle.fx_eqs.specs.declared.term.Source.{Source}
use Rattle.fx_eqs.specs.declared.term.Source.TheVariants.{Row, In}
use Rattle.fx_eqs.specs.declared.term.Term.{Term}
use Rattle.fx_eqs.specs.declared.fault.EqsFault.{EqsFault}
use Rattle.fx_eqs.proofs.Distinct.{distinct_head}

-- ---- the tests that let pass

no_source_fault : (rows inputs place : ℕ) (from : Source) (rest : Option EqsFault) →
    SourceFits rows inputs from → rest ≡ None → source_fault rows inputs place from rest ≡ None
no_source_fault rows inputs place (Row j) rest fits r = none_if _ _ rest (lt-leb rows j fits) r
no_source_fault rows inputs place (In j) rest fits r = none_if _ _ rest (lt-leb inputs j fits) r

not_forward : (row : ℕ) (from : Source) (lag : ℕ) → IsThereByThen row from lag → is_forward_read row from lag ≡ false
not_forward row (Row j) lag there = grind (arith, nat_tests)
not_forward row (In j) lag there = refl

-- ---- term by term

-- a term that fits and differs from the kept ones before it
no_term_fault : (rows inputs : ℕ) (earlier : List Term) (t : Term) → TermFits rows inputs t →
    list_any (is_same_read t) (kept earlier) ≡ false → kept_term_fault rows inputs earlier t ≡ None
no_term_fault rows inputs earlier t fits fresh =
    none_if _ _ _ (lt-leb rows t.row fits.row)
    (no_source_fault rows inputs (length earlier) t.from _ fits.source
    (none_if _ _ _ (le-ltb LONGEST_LAG t.lag fits.lag)
    (none_if _ _ _ (not_forward t.row t.from t.lag fits.causal)
    (none_if _ _ _ fresh refl))))

-- none of these terms reads what a kept one of the earlier ones reads
abbrev AllFresh : List Term → List Term → Type 0
AllFresh earlier ts = All (λ t. list_any (is_same_read t) (kept earlier) ≡ false) ts

-- a kept term joins the earlier ones
fresh_behind : (earlier : List Term) (t : Term) (ts : List Term) → is_kept t ≡ true → AllFresh earlier ts →
    All (λ x. is_same_read x t ≡ false) ts → AllFresh (earlier ++ t ∷ []) ts
fresh_behind earlier t ts keeps fresh apart = λ k d h.
    let x = get_or ts k d in
    let last : kept (earlier ++ t ∷ []) ≡ kept earlier ++ t ∷ [] =
    filter-append is_kept earlier (t ∷ []) ∙ ap (λ b. kept earlier ++ cond b (t ∷ []) []) keeps in
    rw last (list_any-append (is_same_read x) (kept earlier) (t ∷ [])
    ∙ or_from _ _ (fresh k d h) (or_from _ _ (apart k d h) refl))

-- a dropped term changes nothing
fresh_beside : (earlier : List Term) (t : Term) (ts : List Term) → is_kept t ≡ false → AllFresh earlier ts →
    AllFresh (earlier ++ t ∷ []) ts
fresh_beside earlier t ts drops fresh =
    let last : kept (earlier ++ t ∷ []) ≡ kept earlier =
    filter-append is_kept earlier (t ∷ []) ∙ ap (λ b. kept earlier ++ cond b (t ∷ []) []) drops
    ∙ append-nil (kept earlier) in
    λ k d h. rw last (fresh k d h)

-- the kept terms of a list fit, and differ from each other and from the earlier ones
record Passes (rows inputs : ℕ) (earlier ts : List Term) : Type 0 where
  fits : All (TermFits rows inputs) ts
  once : IsDistinct (λ (e t : Term). is_same_read t e) ts
  fresh : AllFresh earlier ts

no_terms_fault : (rows inputs : ℕ) (earlier ts : List Term) → Passes rows inputs earlier (kept ts) →
    terms_fault rows inputs earlier ts ≡ None
no_terms_fault rows inputs earlier [] p = refl
no_terms_fault rows inputs earlier (t ∷ ts) p =
    by_test (is_kept t) refl p (λ rest. no_terms_fault rows inputs (earlier ++ t ∷ []) ts rest)
  where
    by_test : (b : Bool) → is_kept t ≡ b → Passes rows inputs earlier (cond b (t ∷ kept ts) (kept ts))
        → (Passes rows inputs (earlier ++ t ∷ []) (kept ts) → terms_fault rows inputs (earlier ++ t ∷ []) ts ≡ None)
        → option_or (cond b (kept_term_fault rows inputs earlier t) None)
        (terms_fault rows inputs (earlier ++ t ∷ []) ts) ≡ None
    by_test true keeps p next =
        none_or _ _
        (no_term_fault rows inputs earlier t (All-head (TermFits rows inputs) t (kept ts) p.fits)
        (All-head (λ x. list_any (is_same_read x) (kept earlier) ≡ false) t (kept ts) p.fresh))
        (next (record {
          fits = All-tail (TermFits rows inputs) t (kept ts) p.fits;
          once = IsDistinct-tail (λ (e t : Term). is_same_read t e) t (kept ts) p.once;
          fresh = fresh_behind earlier t (kept ts) keeps
              (All-tail (λ x. list_any (is_same_read x) (kept earlier) ≡ false) t (kept ts) p.fresh)
              (distinct_head (λ (e t : Term). is_same_read t e) t (kept ts) p.once);
        }))
    by_test false drops p next =
        next (record { fits = p.fits; once = p.once; fresh = fresh_beside earlier t (kept ts) drops p.fresh })

-- ---- the system

-- the limits of the terms that are kept
pub record Limits (rows inputs : ℕ) (ts : List Term) : Type 0 where
  pub rows_low : 1 ≤ rows
  pub net : net_rows rows inputs ts ≤ NET_ROWS
  pub count : length ts ≤ EQUATION_TERMS
  pub fits : All (TermFits rows inputs) ts
  pub once : IsDistinct (λ (e t : Term). is_same_read t e) ts

pub no_fault : (rows inputs : ℕ) (terms : List Term) → Limits rows inputs (kept terms) →
    eqs_fault rows inputs terms ≡ None
no_fault rows inputs terms l =
    none_or _ _
    (no_terms_fault rows inputs [] terms (record { fits = l.fits; once = l.once; fresh = λ k d h. refl }))
    (none_if _ _ _ (le-ltb EQUATION_TERMS (length (kept terms)) l.count)
    (none_if _ _ None (or_from _ _ (ne_eqb rows 0 (λ e. let low = l.rows_low in omega arith))
    (le-ltb NET_ROWS (net_rows rows inputs (kept terms)) l.net)) refl))

pub what_fits : WhatFitsHasNoFault
what_fits rows inputs terms outputs s =
    no_fault rows inputs terms (record {
      rows_low = s.rows_low;
      net = s.net_high;
      count = s.terms_high;
      fits =
          s.terms;
      once = s.once;
    })
