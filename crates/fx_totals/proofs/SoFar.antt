-- What a series keeps for a length, step by step.
use Rattle.std.proofs.Common.{◌≡◌, ℕ, zero, suc, ◌+◌, ◌<◌, ◌≤◌, ◌⊎◌, inl, inr, List, length, arith, refl, sym, ◌∙◌}
use Rattle.std.proofs.Common.{subst, Option, None, Some}
use Rattle.std.proofs.lemmas.Bool.{cases_eq}
use Rattle.std.proofs.lemmas.List.{get_or-replicate, get_or-set_other, get_or-set_same, length-replicate}
use Rattle.std.specs.Prelude.{slice_set}
use Rattle.fx_nums.specs.Interval.{Interval}
use Rattle.fx_net.specs.Net.{Net}
use Rattle.fx_sweep.specs.Range.{first_range_in, range_at}
use Rattle.fx_sweep.specs.Target.{start_of}
use Rattle.fx_sweep.specs.declared.target.RangeAt.{RangeAt}
use Rattle.fx_sweep.specs.declared.target.Target.{Target}
use Rattle.fx_sweep.proofs.Ranges.{first_none}
use Rattle.fx_totals.specs.Filled.{AreHeld, CanBeFilled, Filled, HoldsTarget, first_target_range, length_in}
use Rattle.fx_totals.specs.Filled.{range_of_target, target_in}
use Rattle.fx_totals.specs.Kept.{AreEarlierSame}
use Rattle.fx_totals.specs.Series.{AreDone, AreSoFar, AreUpToLength, CanBeSeries, IsDone, IsSeries, IsSoFar}
use Rattle.fx_totals.specs.Series.{KeptAtLength, KeptSeries, WantUpTo, for_each, nothing_kept, part_in, still_wanted}
use Rattle.fx_totals.specs.declared.target_range.TargetRange.{TargetRange}
use Rattle.fx_totals.proofs.Kept.{held_stays, range_stays}

-- ---- one length for each target

pub each_length : (targets : List Target) (wanted t : ℕ) → t < length targets →
    length_in (for_each targets wanted) t ≡ wanted
each_length targets wanted t l = get_or-replicate (length targets) t wanted 0 l

-- what a series asks for is what totals ask for at each length
pub each_can_be_filled : (n : ℕ) (targets : List Target) (lengths : List ℕ) (l : ℕ) → CanBeSeries n targets lengths →
    l < length lengths → CanBeFilled n targets (for_each targets (length_in lengths l))
each_can_be_filled n targets lengths l can inside = record {
  few = can.few;
  a_length_each = length-replicate (length targets) (length_in lengths l);
  targets_fit = can.targets_fit;
  some = λ t h. rw (each_length targets (length_in lengths l) t h) (can.some l inside);
  short = λ t h. rw (each_length targets (length_in lengths l) t h) (can.short l inside);
}

-- ---- ranges

-- no range in n moments is none in fewer
pub none_before : (net : Net) (start : ℕ → Interval) (m n : ℕ) → m ≤ n → first_range_in net start n ≡ None →
    first_range_in net start m ≡ None
none_before net start m zero l none = (let e : m ≡ 0 = omega (arith, l) in rw e refl)
none_before net start m (suc n) l none = by_end (cases_eq m (suc n)) (none_before net start m n)
  where
    by_end : (m ≡ suc n) ⊎ (m ≡ suc n → ⊥) →
        (m ≤ n → first_range_in net start n ≡ None → first_range_in net start m ≡ None) →
        first_range_in net start m ≡ None
    by_end (inl e) _ = rw e none
    by_end (inr ne) before = before (omega (arith, l, ne))
        (first_none (first_range_in net start n) (range_at net start n) none)

no_range_here : (net : Net) (targets : List Target) (wanted t m : ℕ) → t < length targets → wanted ≤ m →
    first_range_in net (start_of (target_in targets t)) m ≡ None →
    range_of_target net targets (for_each targets wanted) t ≡ None
no_range_here net targets wanted t m l w none =
    rw (each_length targets wanted t l, none_before net (start_of (target_in targets t)) wanted m w none) refl

range_here : (net : Net) (targets : List Target) (wanted t m : ℕ) (at : RangeAt) → t < length targets → m < wanted →
    first_range_in net (start_of (target_in targets t)) m ≡ None →
    range_at net (start_of (target_in targets t)) m ≡ Some at →
    range_of_target net targets (for_each targets wanted) t ≡ Some (record { target = t; at = at })
range_here net targets wanted t m at l w none here =
    rw (
      each_length targets wanted t l,
      range_stays net (start_of (target_in targets t)) m wanted at w none here,
    ) refl

-- the first target that meets a range is the first of those before, or else the next
first_after : (net : Net) (targets : List Target) (lengths : List ℕ) (t : ℕ) (o : Option TargetRange) →
    first_target_range net targets lengths t ≡ None → range_of_target net targets lengths t ≡ o →
    first_target_range net targets lengths (t + 1) ≡ o
first_after net targets lengths t o none here = (let s : t + 1 ≡ suc t = omega arith in rw (s, none, here) refl)

first_stays : (net : Net) (targets : List Target) (lengths : List ℕ) (t : ℕ) (r : TargetRange) →
    first_target_range net targets lengths t ≡ Some r → first_target_range net targets lengths (t + 1) ≡ Some r
first_stays net targets lengths t r here = (let s : t + 1 ≡ suc t = omega arith in rw (s, here) refl)

-- ---- what is still wanted

pub wanted_when_open : (p : KeptAtLength) → p.range ≡ None → still_wanted p ≡ p.moments
wanted_when_open p e = rw e refl

pub wanted_when_met : (p : KeptAtLength) (r : TargetRange) → p.range ≡ Some r → still_wanted p ≡ 0
wanted_when_met p r e = rw e refl

pub wanted_at_most : (p : KeptAtLength) (o : Option TargetRange) → p.range ≡ o → still_wanted p ≤ p.moments
wanted_at_most p None e = omega (arith, wanted_when_open p e)
wanted_at_most p (Some r) e = omega (arith, wanted_when_met p r e)

-- where moments are wanted, no target has met a range
pub open_is : (p : KeptAtLength) (o : Option TargetRange) (m : ℕ) → p.range ≡ o → m < still_wanted p →
    (p.range ≡ None) × (m < p.moments)
open_is p None m e l = (e, subst (λ n. m < n) (wanted_when_open p e) l)
open_is p (Some r) m e l = (let no : ⊥ = omega (arith, l, wanted_when_met p r e) in elim no [ ])

-- ---- the steps

pub begun : (p : KeptAtLength) (net : Net) (targets : List Target) (wanted : ℕ) → 1 ≤ wanted → p.moments ≡ wanted →
    p.range ≡ None → IsSoFar p net targets wanted 0 0
begun p net targets wanted some same none = record {
  some = some;
  wanted_is = same;
  range_is = none;
  earlier = λ _ s l. elim l [ ];
  here = λ _ l. (let no : ⊥ = omega (arith, some, l) in elim no [ ]);
}

module _ (net : Net) (targets : List Target) (wanted t m : ℕ) where
  -- as many moments as are wanted
  pub moment_kept : (p q : KeptAtLength) (n : ℕ) → wanted ≡ n → q.moments ≡ p.moments → q.range ≡ p.range →
      net.rows ≡ p.kept.size → AreEarlierSame t p.kept q.kept →
      HoldsTarget q.kept t net (start_of (target_in targets t)) n →
      IsSoFar p net targets wanted t m → IsSoFar q net targets wanted t n
  moment_kept p q n last moments range rows same held h = record {
    some = h.some;
    wanted_is = moments ∙ h.wanted_is;
    range_is = range ∙ h.range_is;
    earlier = λ none s l. held_stays t p.kept q.kept net (start_of (target_in targets s)) wanted s same rows l
        (h.earlier (sym range ∙ none) s l);
    here = λ none l. subst (λ k. HoldsTarget q.kept t net (start_of (target_in targets t)) k) (sym last) held;
  }

  -- the target met no range within the length
  pub target_passed : (p : KeptAtLength) (o : Option TargetRange) → p.range ≡ o → t < length targets →
      first_range_in net (start_of (target_in targets t)) m ≡ None → (p.range ≡ None → wanted ≤ m) →
      IsSoFar p net targets wanted t m → IsSoFar p net targets wanted (t + 1) 0
  target_passed p None e inside none reached h = record {
    some = h.some;
    wanted_is = h.wanted_is;
    range_is = e ∙ sym (first_after net targets (for_each targets wanted) t None (sym h.range_is ∙ e)
        (no_range_here net targets wanted t m inside (reached e) none));
    earlier = λ none_now s l. by_place s (cases_eq s t) l;
    here = λ _ l. (let no : ⊥ = omega (arith, h.some, l) in elim no [ ]);
  }
    where
      by_place : (s : ℕ) → (s ≡ t) ⊎ (s ≡ t → ⊥) → s < t + 1 →
          HoldsTarget p.kept s net (start_of (target_in targets s)) wanted
      by_place s (inl same) l = rw same (h.here e (reached e))
      by_place s (inr other) l = h.earlier e s (omega (arith, l, other))
  target_passed p (Some r) e inside none reached h = record {
    some = h.some;
    wanted_is = h.wanted_is;
    range_is = e ∙ sym (first_stays net targets (for_each targets wanted) t r (sym h.range_is ∙ e));
    earlier = λ none_now s l. (let no : ⊥ = cc in elim no [ ]);
    here = λ none_now l. (let no : ⊥ = cc in elim no [ ]);
  }

  -- the target met a range within the length
  pub target_refused : (p q : KeptAtLength) (at : RangeAt) → p.range ≡ None → m < wanted →
      q.moments ≡ p.moments → q.range ≡ Some (record { target = t; at = at }) → t < length targets →
      first_range_in net (start_of (target_in targets t)) m ≡ None →
      range_at net (start_of (target_in targets t)) m ≡ Some at →
      IsSoFar p net targets wanted t m → IsSoFar q net targets wanted (t + 1) 0
  target_refused p q at untouched less moments range inside none here h = record {
    some = h.some;
    wanted_is = moments ∙ h.wanted_is;
    range_is = range ∙ sym (first_after net targets (for_each targets wanted) t
        (Some (record { target = t; at = at })) (sym h.range_is ∙ untouched)
        (range_here net targets wanted t m at inside less none here));
    earlier = λ no_range s l. (let no : ⊥ = cc in elim no [ ]);
    here = λ no_range l. (let no : ⊥ = cc in elim no [ ]);
  }

-- all targets are done
pub all_done : (p q : KeptAtLength) (net : Net) (targets : List Target) (wanted : ℕ) → q.range ≡ p.range →
    (AreHeld p.kept net targets (for_each targets wanted) →
    Filled q.kept net targets (for_each targets wanted)) →
    IsSoFar p net targets wanted (length targets) 0 → IsDone q net targets wanted
all_done p q net targets wanted range fill h = record {
  range_is = range ∙ h.range_is;
  filled = λ none. fill (λ t l.
      subst (λ n. HoldsTarget p.kept t net (start_of (target_in targets t)) n) (sym (each_length targets wanted t l))
      (h.earlier (sym range ∙ none) t l));
}

pub series_done : (s : KeptSeries) (net : Net) (targets : List Target) (lengths : List ℕ) → s.count ≡ length lengths →
    AreDone s.parts net targets lengths → IsSeries s net targets lengths
series_done s net targets lengths count done = record {
  count = count;
  ranges = λ l inside. (done l inside).range_is;
  filled = λ l inside none. (done l inside).filled none;
}

-- ---- one length after the other

pub each_before : (l : ℕ) (P : ℕ → Type 0) → ((k : ℕ) → k < l → P k) → P l → (k : ℕ) → k < l + 1 → P k
each_before l P before here k less = by_place (cases_eq k l)
  where
    by_place : (k ≡ l) ⊎ (k ≡ l → ⊥) → P k
    by_place (inl e) = subst P (sym e) here
    by_place (inr ne) = before k (omega (arith, less, ne))

module _ (now : List KeptAtLength) (l : ℕ) (new : KeptAtLength) (inside : l < length now) where
  pub set_each : (P : ℕ → KeptAtLength → Type 0) → ((k : ℕ) → k < l → P k (part_in now k)) → P l new →
      (k : ℕ) → k < l + 1 → P k (part_in (slice_set now l new) k)
  set_each P done here =
      each_before l (λ k. P k (part_in (slice_set now l new) k))
      (λ k less. subst (P k) (sym (get_or-set_other now l k new nothing_kept (λ e. omega (arith, e, less))))
      (done k less))
      (subst (P l) (sym (get_or-set_same now l new nothing_kept inside)) here)

  pub set_rest : (before : List KeptAtLength) → ((k : ℕ) → l ≤ k → part_in now k ≡ part_in before k) → (k : ℕ) →
      l + 1 ≤ k → part_in (slice_set now l new) k ≡ part_in before k
  set_rest before rest k less =
      get_or-set_other now l k new nothing_kept (λ e. omega (arith, e, less)) ∙ rest k (omega (arith, less))

-- ---- one target after the other

pub want_up_to : (parts : List KeptAtLength) (net : Net) (targets : List Target) (lengths : List ℕ) (t m most : ℕ) →
    AreSoFar parts net targets lengths t m → AreUpToLength most lengths → WantUpTo most (length lengths) parts
want_up_to parts net targets lengths t m most so_far bound l inside =
    omega (arith, (so_far l inside).wanted_is, bound l inside)

-- a target that met no range as long as it was wanted is done
pub all_passed : (before now : List KeptAtLength) (net : Net) (targets : List Target) (lengths : List ℕ) (t m : ℕ) →
    t < length targets → first_range_in net (start_of (target_in targets t)) m ≡ None →
    ((l : ℕ) → l < length lengths → (part_in before l).range ≡ None → (part_in before l).moments ≤ m) →
    AreSoFar before net targets lengths t 0 → AreSoFar now net targets lengths t m →
    AreSoFar now net targets lengths (t + 1) 0
all_passed before now net targets lengths t m target none covers was is l inside =
    target_passed net targets (length_in lengths l) t m (part_in now l) (part_in now l).range refl target none
    (λ open_now. omega (
      arith,
      covers l inside ((was l inside).range_is ∙ (sym (is l inside).range_is ∙ open_now)),
      (was l inside).wanted_is,
    )) (is l inside)
