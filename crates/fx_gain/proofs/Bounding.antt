-- Bounds of words of one input alone, and raises up to caps that agree.
use Rattle.std.proofs.Common.{◌≡◌, ◌⊎◌, ℕ, zero, suc, ◌<◌, ◌≤◌, List, length, get_or, arith, refl, ap, ap₂}
use Rattle.std.proofs.Common.{sym, ◌∙◌, subst, inl, inr, cond, eqb, ltb, not, Bool, true, false, Option, Some, None}
use Rattle.std.proofs.Common.{replicate, set}
use Rattle.std.proofs.Math.IntN.{ℤ, pos}
use Rattle.std.specs.Prelude.{unsigned_abs}
use Rattle.std.specs.Option.{option_or}
use Rattle.std.proofs.lemmas.Bool.{cases_eq, cases_lt, cond-false, eq-eqb, le-ltb, ne_eqb}
use Rattle.std.proofs.lemmas.List.{get_or-replicate, get_or-set_other, get_or-set_same, get_or_past, length-replicate}
use mathlib.Core.Path.{fun_ext}
use Rattle.fx_files.specs.Filter.{Filter}
use Rattle.fx_msb.specs.declared.widths.TheConstants.{GREATEST_BOUND}
use Rattle.fx_net.specs.Net.{Net}
use Rattle.fx_totals.specs.Kept.{bound_in}
use Rattle.fx_block.specs.Formats.{bound_of}
use Rattle.fx_block.specs.Raising.{Raises, ended, ended_by, first_row, least_by_raises, raise, raised_bound, raises_by}
use Rattle.fx_block.specs.Raising.Raises.{Over, Slow}
use Rattle.fx_block.specs.Told.{Tells}
use Rattle.fx_block.specs.declared.least.Least.{Least}
use Rattle.fx_gain.specs.Lengths.{bound_alone, raises_up}

-- ---- one bound alone

zero_at : (n i : ℕ) → get_or (replicate n (pos 0)) i (pos 0) ≡ pos 0
zero_at n i = elim (cases_lt i n) [
  | inl l ↦ get_or-replicate n i (pos 0) (pos 0) l
  | inr past ↦ get_or_past (replicate n (pos 0)) i (pos 0)
      (let long = length-replicate n (pos 0) in omega (arith, past, long))
]

pub one_alone : (filter : Filter) (n j : ℕ) (b : ℤ) → j < n → unsigned_abs b ≡ bound_of filter j →
    bound_in (set (replicate n (pos 0)) j b) ≡ bound_alone filter j
one_alone filter n j b l size = fun_ext (λ i. at i (cases_eq i j))
  where
    long : length (replicate n (pos 0)) ≡ n
    long = length-replicate n (pos 0)

    at : (i : ℕ) → (i ≡ j) ⊎ (i ≡ j → ⊥) → bound_in (set (replicate n (pos 0)) j b) i ≡ bound_alone filter j i
    at i (inl same) =
        let here : bound_alone filter j i ≡ bound_of filter j = rw (eq-eqb i j same) refl in
        let e : get_or (set (replicate n (pos 0)) j b) j (pos 0) ≡ b =
        get_or-set_same (replicate n (pos 0)) j b (pos 0) (omega (arith, l, long)) in
        ap (λ k. unsigned_abs (get_or (set (replicate n (pos 0)) j b) k (pos 0))) same
        ∙ ap unsigned_abs e ∙ size ∙ sym here
    at i (inr other) =
        let here : bound_alone filter j i ≡ 0 = rw (ne_eqb i j other) refl in
        ap unsigned_abs (get_or-set_other (replicate n (pos 0)) j i b (pos 0) other ∙ zero_at n i) ∙ sym here

-- ---- lengths and caps that agree

first_same : (n : ℕ) (f g : ℕ → Bool) → ((j : ℕ) → j < n → f j ≡ g j) → first_row n f ≡ first_row n g
first_same zero f g same = refl
first_same (suc n) f g same =
    ap₂ (λ x b. option_or x (cond b (Some n) None)) (first_same n f g (λ j l. same j (omega (arith, l))))
    (same n (omega arith))

first_below : (n : ℕ) (test : ℕ → Bool) (j : ℕ) → first_row n test ≡ Some j → j < n
first_below zero test j e = cc
first_below (suc n) test j e = by (first_below n test j) (first_row n test) refl
  where
    here : (b : Bool) → cond b (Some n) None ≡ Some j → j < suc n
    here true g = (let same : n ≡ j = cc in omega (arith, same))
    here false g = cc

    by : (first_row n test ≡ Some j → j < n) → (o : Option ℕ) → first_row n test ≡ o → j < suc n
    by again (Some i) f =
        let same : Some i ≡ Some j = sym (ap (λ x. option_or x (cond (test n) (Some n) None)) f) ∙ e in
        let below : j < n = again (f ∙ same) in omega (arith, below)
    by again None f =
        here (test n) (sym (ap (λ x. option_or x (cond (test n) (Some n) None)) f) ∙ e)

ended_same : (n : ℕ) (caps others rows next : ℕ → ℕ) (go_on further : ℕ → Raises) →
    ((j : ℕ) → j < n → caps j ≡ others j) → ((j : ℕ) → go_on j ≡ further j) →
    ended_by n caps rows next go_on ≡ ended_by n others rows next further
ended_same n caps others rows next go_on further agree same =
    by (first_row n (λ j. ltb (caps j) (next j))) refl
    ∙ ap (λ over. ended others rows next over (first_row n (λ j. not (eqb (next j) (rows j)))) further)
    (first_same n (λ j. ltb (caps j) (next j)) (λ j. ltb (others j) (next j))
    (λ j l. ap (λ c. ltb c (next j)) (agree j l)))
  where
    on : (changed : Option ℕ) → ended caps rows next None changed go_on ≡ ended others rows next None changed further
    on None = refl
    on (Some j) = same j

    by : (over : Option ℕ) → first_row n (λ j. ltb (caps j) (next j)) ≡ over →
        ended caps rows next (first_row n (λ j. ltb (caps j) (next j)))
        (first_row n (λ j. not (eqb (next j) (rows j)))) go_on
        ≡ ended others rows next (first_row n (λ j. ltb (caps j) (next j)))
        (first_row n (λ j. not (eqb (next j) (rows j)))) further
    by (Some j) f = rw f (ap (Over j (next j)) (agree j (first_below n (λ j. ltb (caps j) (next j)) j f)))
    by None f = rw f (on (first_row n (λ j. not (eqb (next j) (rows j)))))

caps_same : (step : (ℕ → ℕ) → ℕ → ℕ) (n : ℕ) (caps others : ℕ → ℕ) → ((j : ℕ) → j < n → caps j ≡ others j) →
    (more : ℕ) (rows : ℕ → ℕ) → raises_by step n caps more rows ≡ raises_by step n others more rows
caps_same step n caps others agree zero rows =
    ended_same n caps others rows (step rows) (λ j. Slow j (rows j) (step rows j))
    (λ j. Slow j (rows j) (step rows j)) agree (λ j. refl)
caps_same step n caps others agree (suc more) rows =
    ended_same n caps others rows (step rows) (λ j. raises_by step n caps more (step rows))
    (λ j. raises_by step n others more (step rows)) agree
    (λ j. caps_same step n caps others agree more (step rows))

lengths_same : (net : Net) (n : ℕ) (lengths others bounds : ℕ → ℕ) → ((j : ℕ) → j < n → lengths j ≡ others j) →
    raise net n lengths bounds ≡ raise net n others bounds
lengths_same net n lengths others bounds agree = fun_ext (λ rows. fun_ext (λ j. at rows j (cases_lt j n)))
  where
    at : (rows : ℕ → ℕ) (j : ℕ) → (j < n) ⊎ (n ≤ j) → raise net n lengths bounds rows j ≡ raise net n others
        bounds rows j
    at rows j (inl l) =
        ap (λ m. cond (ltb j n) (raised_bound net (λ i. m) bounds rows j) 0) (agree j l)
    at rows j (inr past) = cond-false _ _ _ (le-ltb j n past) ∙ sym (cond-false _ _ _ (le-ltb j n past))

pub least_same : (net : Net) (n : ℕ) (lengths others bounds caps greatest : ℕ → ℕ) →
    ((j : ℕ) → j < n → lengths j ≡ others j) → ((j : ℕ) → j < n → caps j ≡ greatest j) →
    least_by_raises net n lengths bounds caps ≡ least_by_raises net n others bounds greatest
least_same net n lengths others bounds caps greatest agree high =
    ap (λ (step : (ℕ → ℕ) → ℕ → ℕ). raises_by step n caps 63 (λ j. 0))
    (lengths_same net n lengths others bounds agree)
    ∙ caps_same (raise net n others bounds) n caps greatest high 63 (λ j. 0)

-- caps that are all the greatest bound
pub told_below : (net : Net) (rows n : ℕ) (lengths bounds : ℕ → ℕ) (caps : List ℤ) (least : Least) (x : ℕ → ℕ) →
    caps ≡ replicate rows (pos GREATEST_BOUND) → n ≤ rows →
    Tells (least_by_raises net n lengths bounds (bound_in caps)) least x → Tells
    (raises_up net n lengths bounds) least x
unfolding raises_up
told_below net rows n lengths bounds caps least x are inside told =
    subst (λ r. Tells r least x)
    (least_same net n lengths lengths bounds (bound_in caps) (λ i. GREATEST_BOUND) (λ j l. refl)
    (λ j l. ap unsigned_abs (ap (λ cs. get_or cs j (pos 0)) are
    ∙ get_or-replicate rows j (pos GREATEST_BOUND) (pos 0) (omega (arith, l, inside)))))
    told

-- lengths that agree
pub raises_same : (net : Net) (n : ℕ) (lengths others bounds : ℕ → ℕ) → ((j : ℕ) → j < n → lengths j ≡ others j) →
    raises_up net n lengths bounds ≡ raises_up net n others bounds
unfolding raises_up
raises_same net n lengths others bounds agree =
    least_same net n lengths others bounds (λ i. GREATEST_BOUND) (λ i. GREATEST_BOUND) agree (λ j l. refl)
