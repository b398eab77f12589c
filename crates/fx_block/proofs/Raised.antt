-- Steps of raises, by what totals keep.
use Rattle.std.proofs.Common.{◌≡◌, ◌⊎◌, ℕ, zero, suc, ◌+◌, ◌-◌, ◌^◌, ◌<◌, ◌≤◌, arith, refl, ap, sym, ◌∙◌}
use Rattle.std.proofs.Common.{subst, inl, inr, cond, Bool, true, false, not, eqb, ltb, List, length}
use Rattle.std.proofs.Math.IntN.{ℤ, pos, negsuc, ◌*ℤ◌}
use Rattle.std.specs.Int.Signed.{◌≤ℤ◌}
use Rattle.std.specs.Prelude.{unsigned_abs, Option, Some, None, ◌↔◌}
use Rattle.std.proofs.lemmas.Bool.{cases_eq, cases_lt, cond-false, lt-ltb, le-ltb}
use Rattle.std.proofs.lemmas.Int.{ints}
use mathlib.Core.Path.{fun_ext}
use Rattle.std.proofs.lemmas.List.{get_or_past}
use Rattle.fx_math.specs.Division.{ceil_div}
use Rattle.fx_nums.specs.declared.limits.TheConstants.{SCALE_BITS}
use Rattle.fx_net.specs.Net.{Net}
use Rattle.fx_sweep.specs.Swept.{whole_in}
use Rattle.fx_sweep.specs.Target.{one, start_of}
use Rattle.fx_sweep.specs.declared.target.Target.{Target}
use Rattle.fx_sweep.specs.declared.target.Target.TheVariants.{Row}
use Rattle.fx_totals.specs.Filled.{Filled, length_in, target_in}
use Rattle.fx_totals.specs.Kept.{AreBounds, AreUpTo, IsUpTo, Kept, bound_in, greatest_bound, kept_total}
use Rattle.fx_totals.specs.AllTime.{ServesNext}
use Rattle.fx_totals.specs.Totals.{target_total}
use Rattle.fx_totals.proofs.Kept.{held_total}
use Rattle.fx_block.specs.Raising.{raise, first_row, Raises, ended, raises_by, least_by_raises}
use Rattle.fx_block.specs.Raising.Raises.{Slow}
use Rattle.fx_block.specs.Told.{Tells, is_slow, kept_raise}
use Rattle.fx_block.specs.declared.least.Least.{Least}
use Rattle.fx_block.specs.declared.least.Least.TheVariants.{Slow as ToldSlow}
use Rattle.fx_block.proofs.Raising.{none_passes}

-- ---- the first row that passes a test

pub none_yet : (j : ℕ) (test : ℕ → Bool) → first_row j test ≡ None → test j ≡ false → first_row (j + 1) test ≡ None
none_yet j test none here = (let s : j + 1 ≡ suc j = omega arith in rw (s, none, here) refl)

pub first_stays : (m n : ℕ) (test : ℕ → Bool) → m < n → first_row m test ≡ None → test m ≡ true →
    first_row n test ≡ Some m
first_stays m zero test l none here = elim l [ ]
first_stays m (suc n) test l none here = by_end (cases_eq m n) (first_stays m n test)
  where
    by_end : (m ≡ n) ⊎ (m ≡ n → ⊥) →
        (m < n → first_row m test ≡ None → test m ≡ true → first_row n test ≡ Some m) →
        first_row (suc n) test ≡ Some m
    by_end (inl e) _ = rw (← e, none, here) refl
    by_end (inr ne) before = rw (before (omega (arith, l, ne)) none here) refl

-- ---- how raises end

-- an end that is told is the end, however raises would have gone on
told_end : (caps rows next : ℕ → ℕ) (over changed : Option ℕ) (last go_on : ℕ → Raises) (least : Least) →
    ((j : ℕ) → last j ≡ Slow j (rows j) (next j)) → is_slow least ≡ false →
    Tells (ended caps rows next over changed last) least rows →
    Tells (ended caps rows next over changed go_on) least rows
told_end caps rows next (Some j) changed last go_on least slow stop h = h
told_end caps rows next None None last go_on least slow stop h = h
told_end caps rows next None (Some j) last go_on least slow stop h =
    let told : least ≡ ToldSlow j (pos (rows j)) (pos (next j)) = subst (λ r. Tells r least rows) (slow j) h in
    let never : true ≡ false = sym (ap is_slow told) ∙ stop in cc

-- where it is that raises still change something, they go on
goes_on : (caps rows next : ℕ → ℕ) (over changed : Option ℕ) (last : ℕ → Raises) (more : Raises) (least : Least) →
    is_slow least ≡ true → Tells (ended caps rows next over changed last) least rows →
    ended caps rows next over changed (λ j. more) ≡ more
goes_on caps rows next (Some j) changed last more least slow h =
    let never : true ≡ false = sym slow ∙ ap is_slow h in cc
goes_on caps rows next None None last more least slow h =
    let never : true ≡ false = sym slow ∙ ap is_slow h.0 in cc
goes_on caps rows next None (Some j) last more least slow h = refl

module _ (step : (ℕ → ℕ) → ℕ → ℕ) (n : ℕ) (caps : ℕ → ℕ) where
  pub ends_here : (more : ℕ) (rows : ℕ → ℕ) (least : Least) → is_slow least ≡ false →
      Tells (raises_by step n caps 0 rows) least rows → Tells (raises_by step n caps more rows) least rows
  ends_here zero rows least stop h = h
  ends_here (suc more) rows least stop h =
      told_end caps rows (step rows) (first_row n (λ j. ltb (caps j) (step rows j)))
      (first_row n (λ j. not (eqb (step rows j) (rows j))))
      (λ j. Slow j (rows j) (step rows j)) (λ j. raises_by step n caps more (step rows)) least (λ j. refl) stop h

  pub one_fewer : (more : ℕ) (rows : ℕ → ℕ) (least : Least) → is_slow least ≡ true →
      Tells (raises_by step n caps 0 rows) least rows →
      raises_by step n caps (suc more) rows ≡ raises_by step n caps more (step rows)
  one_fewer more rows least slow h =
      goes_on caps rows (step rows) (first_row n (λ j. ltb (caps j) (step rows j)))
      (first_row n (λ j. not (eqb (step rows j) (rows j))))
      (λ j. Slow j (rows j) (step rows j)) (raises_by step n caps more (step rows)) least slow h

  -- after one raise more
  pub raised_again : (i : ℕ) (before next : ℕ → ℕ) (least : Least) → i < 63 → is_slow least ≡ true →
      Tells (raises_by step n caps 0 before) least before → next ≡ step before →
      raises_by step n caps 63 (λ j. 0) ≡ raises_by step n caps (63 - i) before →
      raises_by step n caps 63 (λ j. 0) ≡ raises_by step n caps (63 - (i + 1)) next
  raised_again i before next least l slow h same so_far =
      let e : 63 - i ≡ suc (63 - (i + 1)) = omega (arith, l) in
      let on : raises_by step n caps 63 (λ j. 0) ≡ raises_by step n caps (suc (63 - (i + 1))) before =
      subst (λ k. raises_by step n caps 63 (λ j. 0) ≡ raises_by step n caps k before) e so_far in
      subst (λ y. raises_by step n caps 63 (λ j. 0) ≡ raises_by step n caps (63 - (i + 1)) y) (sym same) (on
      ∙ one_fewer (63 - (i + 1)) before least slow h)

  pub ends_after : (i : ℕ) (rows : ℕ → ℕ) (least : Least) → is_slow least ≡ false →
      Tells (raises_by step n caps 0 rows) least rows →
      raises_by step n caps 63 (λ j. 0) ≡ raises_by step n caps (63 - i) rows →
      Tells (raises_by step n caps 63 (λ j. 0)) least rows
  ends_after i rows least stop h so_far =
      subst (λ r. Tells r least rows) (sym so_far) (ends_here (63 - i) rows least stop h)

-- ---- by what totals keep

module _ (k : Kept) (net : Net) (targets : List Target) (lengths : List ℕ)
    (filled : Filled k net targets lengths) (bounds : ℕ → ℕ) where
  total_is : (rows : ℕ → ℕ) (j : ℕ) → j < k.leading → kept_total k j bounds rows
      ≡ target_total net (start_of (Row j)) (length_in lengths j) bounds rows
  total_is rows j l =
      let inside : j < length targets = omega (arith, l, filled.leading.inside) in
      subst (λ t. kept_total k j bounds rows ≡ target_total net (start_of t) (length_in lengths j) bounds rows)
      (filled.leading.rows j l)
      (held_total k j net (start_of (target_in targets j)) (length_in lengths j) bounds rows filled.size
      (filled.numbers j inside))

  raise_is : (rows : ℕ → ℕ) (j : ℕ) → kept_raise k k.leading bounds rows j
      ≡ raise net k.leading (length_in lengths) bounds rows j
  raise_is rows j = elim (cases_lt j k.leading) [
    | inl l ↦ ap (λ w. cond (ltb j k.leading) (unsigned_abs (ceil_div w (2 ^ SCALE_BITS))) 0) (total_is rows j l)
    | inr l ↦ cond-false _ _ _ (le-ltb j k.leading l) ∙ sym (cond-false _ _ _ (le-ltb j k.leading l))
  ]

  pub least_is : (caps : ℕ → ℕ) → raises_by (kept_raise k k.leading bounds) k.leading caps 63 (λ j. 0)
      ≡ least_by_raises net k.leading (length_in lengths) bounds caps
  least_is caps =
      let same : kept_raise k k.leading bounds ≡ raise net k.leading (length_in lengths) bounds =
      fun_ext (λ rows. fun_ext (λ j. raise_is rows j)) in
      ap (λ (step : (ℕ → ℕ) → ℕ → ℕ). raises_by step k.leading caps 63 (λ j. 0)) same

  pub told_least : (caps x : ℕ → ℕ) (n : ℕ) (least : Least) → n ≡ k.leading →
      Tells (raises_by (kept_raise k n bounds) n caps 63 (λ j. 0)) least x →
      Tells (least_by_raises net k.leading (length_in lengths) bounds caps) least x
  told_least caps x n least all h =
      subst (λ r. Tells r least x) (least_is caps)
      (subst (λ m. Tells (raises_by (kept_raise k m bounds) m caps 63 (λ j. 0)) least x) all h)

-- past the rows a raise gives 0
pub raise_past : (k : Kept) (n : ℕ) (bounds rows : ℕ → ℕ) (j : ℕ) → n ≤ j → kept_raise k n bounds rows j ≡ 0
raise_past k n bounds rows j l = cond-false _ _ _ (le-ltb j n l)

-- ---- lists of bounds

-- numbers that are not negative, within others that are bounds, are bounds
magnitude_within : (z : ℤ) (most : ℕ) → pos 0 ≤ℤ z → unsigned_abs z ≤ most → IsUpTo most z
magnitude_within (pos n) most low l = (low, omega (arith, ints, l))
magnitude_within (negsuc n) most low l = absurd (omega (arith, ints, low))

magnitude_at_most : (z : ℤ) (most : ℕ) → IsUpTo most z → unsigned_abs z ≤ most
magnitude_at_most (pos n) most h = omega (arith, ints, h.1)
magnitude_at_most (negsuc n) most h = absurd (omega (arith, ints, h.0))

pub within_caps : (caps next : List ℤ) (most n : ℕ) → AreBounds caps → AreUpTo most next →
    ((j : ℕ) → j < n → bound_in next j ≤ bound_in caps j) → ((j : ℕ) → n ≤ j → bound_in next j ≡ 0) → AreBounds next
within_caps caps next most n caps_fit next_fit low past j =
    magnitude_within (whole_in next j) greatest_bound (next_fit j).0 (within j)
  where
    within : (j : ℕ) → bound_in next j ≤ greatest_bound
    within j = elim (cases_lt j n) [
      | inl l ↦ (let a = magnitude_at_most (whole_in caps j) greatest_bound (caps_fit j) in omega (arith, a, low j l))
      | inr l ↦ omega (arith, past j l)
    ]

-- one bound more is raised
pub one_more_raised : (old new : List ℤ) (f : ℕ → ℕ) (j : ℕ) → ((k : ℕ) → k < j → bound_in old k ≡ f k) →
    whole_in new j ≡ pos (f j) →
    ((k : ℕ) → (k ≡ j → ⊥) → whole_in new k ≡ whole_in old k) → (k : ℕ) → k < j + 1 → bound_in new k ≡ f k
one_more_raised old new f j before here others k l = elim (cases_eq k j) [
  | inl e ↦ subst (λ i. bound_in new i ≡ f i) (sym e) (ap unsigned_abs here)
  | inr ne ↦ ap unsigned_abs (others k ne) ∙ before k (omega (arith, l, ne))
]

pub all_raised : (next : List ℤ) (f : ℕ → ℕ) (n : ℕ) → length next ≤ n →
    ((k : ℕ) → k < n → bound_in next k ≡ f k) → ((k : ℕ) → n ≤ k → f k ≡ 0) → bound_in next ≡ f
all_raised next f n long same past = fun_ext (λ k. at k)
  where
    at : (k : ℕ) → bound_in next k ≡ f k
    at k = elim (cases_lt k n) [
      | inl l ↦ same k l
      | inr l ↦ ap unsigned_abs (get_or_past next k (pos 0) (omega (arith, long, l))) ∙ sym (past k l)
    ]

-- where no row passes its cap, all are within theirs
pub below_caps : (n : ℕ) (caps next : ℕ → ℕ) → first_row n (λ j. ltb (caps j) (next j)) ≡ None → (j : ℕ) →
    j < n → next j ≤ caps j
below_caps n caps next none j l = elim (cases_lt (caps j) (next j)) [
  | inl higher ↦ absurd (let never : true ≡ false = sym (lt-ltb (caps j) (next j) higher)
      ∙ none_passes n (λ j. ltb (caps j) (next j)) none j l in cc)
  | inr low ↦ low
]

-- ---- one row that serves

pub serves_so : (k : Kept) (net : Net) (targets : List Target) (lengths : List ℕ) (j : ℕ) (bounds rows : ℕ →
    ℕ) (t : ℤ) (b : Bool) →
    Filled k net targets lengths → j < k.leading →
    t ≡ target_total net (start_of (target_in targets j)) (length_in lengths j) bounds rows →
    ((b ≡ true) ↔ (t ≤ℤ (pos (rows j) *ℤ one))) → (b ≡ true) ↔ ServesNext net j (length_in lengths j) bounds rows
serves_so k net targets lengths j bounds rows t b filled l total h =
    let inside : j < length targets = omega (arith, l, filled.leading.inside) in
    let first : 1 ≤ length_in lengths j = filled.some j inside in
    let row : target_in targets j ≡ Row j = filled.leading.rows j l in
    let is : t ≡ target_total net (start_of (Row j)) (length_in lengths j) bounds rows =
    subst (λ r. t ≡ target_total net (start_of r) (length_in lengths j) bounds rows) row total in
    let there : (b ≡ true) ↔
    (target_total net (start_of (Row j)) (length_in lengths j) bounds rows ≤ℤ (pos (rows j) *ℤ one)) =
    subst (λ y. (b ≡ true) ↔ (y ≤ℤ (pos (rows j) *ℤ one))) is h in
    ((λ e. record { some = omega (arith, first); total = there.0 e }), (λ s. there.1 s.total))

-- before the first raise
pub begins : (step : (ℕ → ℕ) → ℕ → ℕ) (n : ℕ) (caps x : ℕ → ℕ) → ((j : ℕ) → x j ≡ 0) →
    raises_by step n caps 63 (λ j. 0) ≡ raises_by step n caps 63 x
begins step n caps x zeros =
    let same : (λ (j : ℕ). 0) ≡ x = fun_ext (λ j. sym (zeros j)) in
    ap (λ (y : ℕ → ℕ). raises_by step n caps 63 y) same
