-- Raises from 0 stay below all bounds that serve.
use Rattle.std.proofs.Common.{◌≡◌, ◌⊎◌, ℕ, zero, suc, ◌+◌, ◌*◌, ◌^◌, ◌<◌, ◌≤◌, arith, refl, ap, sym, ◌∙◌, subst}
use Rattle.std.proofs.Common.{inl, inr, cond, Bool, true, false, not, eqb, ltb}
use Rattle.std.proofs.Math.IntN.{ℤ, pos, negsuc, ◌+ℤ◌, ◌*ℤ◌}
use Rattle.std.specs.Int.Signed.{◌≤ℤ◌, ◌<ℤ◌}
use Rattle.std.specs.Prelude.{unsigned_abs, Option, Some, None}
use Rattle.std.specs.Option.{option_or}
use Rattle.std.proofs.lemmas.Bool.{cases_lt, cond-true, cond-false, lt-ltb, le-ltb, ltb-true, ltb-false, eqb-true}
use Rattle.std.proofs.lemmas.Int.{ints}
use Rattle.std.proofs.lemmas.Nat.{pow_pos}
use Rattle.fx_math.specs.Division.{ceil_div}
use Rattle.fx_math.proofs.Division.{ceil_above, ceil_below, cancel_lt}
use Rattle.fx_nums.specs.declared.limits.TheConstants.{SCALE_BITS}
use Rattle.fx_net.specs.Net.{Net}
use Rattle.fx_sweep.specs.Target.{start_of}
use Rattle.fx_sweep.specs.declared.target.Target.TheVariants.{Row}
use Rattle.fx_totals.specs.Growth.{NoTotalIsNegative, TotalsGrow}
use Rattle.fx_totals.specs.Totals.{target_total}
use Rattle.fx_block.specs.Least.{AllServe, AreLeastBounds}
use Rattle.fx_block.specs.Raising.{raised_bound, raise, first_row, Raises, ended, ended_by, raises, RestIsLeast}
use Rattle.fx_block.specs.Raising.{OverHasNone}
use Rattle.fx_block.specs.Raising.Raises.{Rest, Over, Slow}

-- ---- rounding up a number that is not negative

ceil_covers : (t : ℤ) (d : ℕ) → 0 < d → pos 0 ≤ℤ t → t ≤ℤ pos (unsigned_abs (ceil_div t d) * d)
ceil_covers t d some low = by (ceil_div t d) (ceil_above t d some)
  where
    by : (c : ℤ) → t ≤ℤ (c *ℤ pos d) → t ≤ℤ pos (unsigned_abs c * d)
    by (pos n) h = omega (arith, ints, h)
    by (negsuc n) h = omega (arith, ints, h, low)

ceil_within : (t : ℤ) (d x : ℕ) → 0 < d → pos 0 ≤ℤ t → t ≤ℤ pos (x * d) → unsigned_abs (ceil_div t d) ≤ x
ceil_within t d x some low high = by (ceil_div t d) (ceil_above t d some) (ceil_below t d some)
  where
    by : (c : ℤ) → t ≤ℤ (c *ℤ pos d) → (c *ℤ pos d) <ℤ (t +ℤ pos d) → unsigned_abs c ≤ x
    by (pos n) h k =
        let product : n * d < (x + 1) * d = omega (arith, ints, k, high) in
        let below : n < x + 1 = cancel_lt n (x + 1) d product in
        omega (arith, below)
    by (negsuc n) h k = absurd (let wide : suc n * d < 1 =
        omega (arith, ints, h, low) in omega (arith, wide, some, product_some n d some))
      where
        product_some : (n d : ℕ) → 0 < d → d ≤ suc n * d
        product_some n d l = omega arith

-- ---- the first row that passes a test

pub first_passes : (n : ℕ) (test : ℕ → Bool) (j : ℕ) → first_row n test ≡ Some j → (j < n) × (test j ≡ true)
first_passes zero test j e = cc
first_passes (suc n) test j e = by (first_passes n test j) (first_row n test) refl (test n) refl
  where
    by : (first_row n test ≡ Some j → (j < n) × (test j ≡ true)) → (o : Option ℕ) → first_row n test ≡ o →
        (b : Bool) → test n ≡ b → (j < suc n) × (test j ≡ true)
    by again (Some i) f b g =
        let same : Some i ≡ Some j = sym (ap (λ x. option_or x (cond (test n) (Some n) None)) f) ∙ e in
        let at = again (f ∙ same) in
        (omega (arith, at.0), at.1)
    by again None f true g =
        let same : Some n ≡ Some j =
        sym (ap (λ x. option_or x (cond (test n) (Some n) None)) f ∙ ap (λ b. cond b (Some n) None) g) ∙ e in
        let at : n ≡ j = cc in
        (omega (arith, at), subst (λ i. test i ≡ true) at g)
    by again None f false g =
        let same : None ≡ Some j =
        sym (ap (λ x. option_or x (cond (test n) (Some n) None)) f ∙ ap (λ b. cond b (Some n) None) g) ∙ e in
        cc

pub none_passes : (n : ℕ) (test : ℕ → Bool) → first_row n test ≡ None → (j : ℕ) → j < n → test j ≡ false
none_passes zero test e j l = absurd (omega arith)
none_passes (suc n) test e j l = by (λ f below. none_passes n test f j below) (first_row n test) refl (test n) refl
  where
    by : (first_row n test ≡ None → j < n → test j ≡ false) → (o : Option ℕ) → first_row n test ≡ o →
        (b : Bool) → test n ≡ b → test j ≡ false
    by again (Some i) f b g = let same : Some i ≡ None =
        sym (ap (λ x. option_or x (cond (test n) (Some n) None)) f) ∙ e in cc
    by again None f true g =
        let same : Some n ≡ None =
        sym (ap (λ x. option_or x (cond (test n) (Some n) None)) f ∙ ap (λ b. cond b (Some n) None) g) ∙ e in
        cc
    by again None f false g = elim (cases_lt j n) [
      | inl below ↦ again f below
      | inr at ↦ subst (λ i. test i ≡ false) (let same : n ≡ j = omega arith in same) g
    ]

-- ---- one step of the raises

rest_of : Raises → ℕ → ℕ
rest_of (Rest rows) = rows
rest_of (Over j value cap) = λ i. 0
rest_of (Slow j before after) = λ i. 0

row_of : Raises → ℕ
row_of (Rest rows) = 0
row_of (Over j value cap) = j
row_of (Slow j before after) = 0

-- raises that rest did so at once, within the caps, or went on
pub record RestsAtOnce (n : ℕ) (caps rows next x : ℕ → ℕ) : Type 0 where
  pub bounds_are : rows ≡ x
  pub stays : (j : ℕ) → j < n → next j ≡ rows j
  pub within : (j : ℕ) → j < n → next j ≤ caps j

pub RestsSo : ℕ → (ℕ → ℕ) → (ℕ → ℕ) → (ℕ → ℕ) → (ℕ → Raises) → (ℕ → ℕ) → Type 0
RestsSo n caps rows next go_on x = RestsAtOnce n caps rows next x ⊎ ((j : ℕ) × (go_on j ≡ Rest x))

unchanged : (a b : ℕ) → not (eqb a b) ≡ false → a ≡ b
unchanged a b e = by (eqb a b) refl e
  where
    by : (t : Bool) → eqb a b ≡ t → not t ≡ false → a ≡ b
    by true f g = eqb-true a b f
    by false f g = cc

pub rests : (n : ℕ) (caps rows next x : ℕ → ℕ) (go_on : ℕ → Raises) → ended_by n caps rows next go_on ≡ Rest x →
    RestsSo n caps rows next go_on x
unfolding RestsSo rest_of
rests n caps rows next x go_on e =
    by (first_row n (λ j. ltb (caps j) (next j))) refl (first_row n (λ j. not (eqb (next j) (rows j)))) refl e
  where
    by : (over : Option ℕ) → first_row n (λ j. ltb (caps j) (next j)) ≡ over → (changed : Option ℕ) →
        first_row n (λ j. not (eqb (next j) (rows j))) ≡ changed →
        ended caps rows next over changed go_on ≡ Rest x → RestsSo n caps rows next go_on x
    by (Some j) h changed f g = cc
    by None h None f g = inl (record {
      bounds_are = ap rest_of g;
      stays = λ j l. unchanged (next j) (rows j) (none_passes n (λ j. not (eqb (next j) (rows j))) f j l);
      within = λ j l. ltb-false (caps j) (next j) (none_passes n (λ j. ltb (caps j) (next j)) h j l);
    })
    by None h (Some j) f g = inr (j, g)

-- raises of which one passed its cap did so at once, or went on
PassesSo : ℕ → (ℕ → ℕ) → (ℕ → ℕ) → (ℕ → Raises) → ℕ → ℕ → ℕ → Type 0
PassesSo n caps next go_on row value cap =
    ((row < n) × (caps row < next row)) ⊎ ((j : ℕ) × (go_on j ≡ Over row value cap))

passes : (n : ℕ) (caps rows next : ℕ → ℕ) (go_on : ℕ → Raises) (row value cap : ℕ) →
    ended_by n caps rows next go_on ≡ Over row value cap → PassesSo n caps next go_on row value cap
unfolding PassesSo row_of
passes n caps rows next go_on row value cap e =
    by (first_row n (λ j. ltb (caps j) (next j))) (first_row n (λ j. not (eqb (next j) (rows j)))) refl e
  where
    by : (over changed : Option ℕ) → first_row n (λ j. ltb (caps j) (next j)) ≡ over →
        ended caps rows next over changed go_on ≡ Over row value cap → PassesSo n caps next go_on row value cap
    by (Some j) changed f g =
        let at = first_passes n (λ j. ltb (caps j) (next j)) j f in
        let same : j ≡ row = ap row_of g in
        let higher : caps j < next j = ltb-true (caps j) (next j) at.1 in
        inl (subst (λ i. i < n) same at.0, subst (λ i. caps i < next i) same higher)
    by None None f g = cc
    by None (Some j) f g = inr (j, g)

-- ---- all raises

module _ (grow : TotalsGrow) (none : NoTotalIsNegative) (net : Net) (n : ℕ) (lengths bounds caps : ℕ → ℕ) where
  total_of : (ℕ → ℕ) → ℕ → ℤ
  total_of rows j = target_total net (start_of (Row j)) (lengths j) bounds rows

  raise_at : (rows : ℕ → ℕ) (j : ℕ) → j < n → raise net n lengths bounds rows j ≡ raised_bound net lengths bounds rows j
  raise_at rows j l = cond-true _ _ _ (lt-ltb j n l)

  raise_past : (rows : ℕ → ℕ) (j : ℕ) → n ≤ j → raise net n lengths bounds rows j ≡ 0
  raise_past rows j l = cond-false _ _ _ (le-ltb j n l)

  not_negative : (rows : ℕ → ℕ) (j : ℕ) → pos 0 ≤ℤ target_total net (start_of (Row j)) (lengths j) bounds rows
  not_negative rows j = none net (start_of (Row j)) (lengths j) bounds rows (λ i. omega (arith, ints))

  -- at most any bounds that serve
  IsBelowAll : (ℕ → ℕ) → Type 0
  IsBelowAll rows = (others : ℕ → ℕ) → AllServe net n lengths bounds others → (j : ℕ) → rows j ≤ others j

  stays_below : (rows : ℕ → ℕ) → IsBelowAll rows → IsBelowAll (raise net n lengths bounds rows)
  unfolding IsBelowAll
  stays_below rows below others serve j = elim (cases_lt j n) [
    | inl l ↦ subst (λ x. x ≤ others j) (sym (raise_at rows j l)) (within j l)
    | inr l ↦ subst (λ x. x ≤ others j) (sym (raise_past rows j l)) (omega arith)
  ]
    where
      within : (j : ℕ) → j < n → raised_bound net lengths bounds rows j ≤ others j
      within j l =
          let less : target_total net (start_of (Row j)) (lengths j) bounds rows ≤ℤ target_total net
          (start_of (Row j)) (lengths j) bounds others =
          grow net (start_of (Row j)) (lengths j) bounds bounds rows others (λ i. omega (arith, ints)) (λ i p.
          omega arith) (λ i p. below others serve i) in
          let fits : target_total net (start_of (Row j)) (lengths j) bounds others ≤ℤ pos
          (others j * 2 ^ SCALE_BITS) = (serve j l).total in
          let high : target_total net (start_of (Row j)) (lengths j) bounds rows ≤ℤ pos
          (others j * 2 ^ SCALE_BITS) = omega (arith, ints, less, fits) in
          ceil_within (target_total net (start_of (Row j)) (lengths j) bounds rows) (2 ^ SCALE_BITS) (others j)
          (pow_pos SCALE_BITS) (not_negative rows j) high

  -- bounds that the next raise leaves serve
  serves : ((j : ℕ) → j < n → 0 < lengths j) → (rows : ℕ → ℕ) →
      ((j : ℕ) → j < n → raise net n lengths bounds rows j ≡ rows j) → AllServe net n lengths bounds rows
  serves some rows same j l =
      let e : raised_bound net lengths bounds rows j ≡ rows j = sym (raise_at rows j l) ∙ same j l in
      let covers : target_total net (start_of (Row j)) (lengths j) bounds rows ≤ℤ pos
      (raised_bound net lengths bounds rows j * 2 ^ SCALE_BITS) =
      ceil_covers (target_total net (start_of (Row j)) (lengths j) bounds rows) (2 ^ SCALE_BITS)
      (pow_pos SCALE_BITS) (not_negative rows j) in
      record {
        some = some j l;
        total =
            subst (λ x. target_total net (start_of (Row j)) (lengths j) bounds rows ≤ℤ pos (x * 2 ^ SCALE_BITS)) e
            covers;
      }

  settled : ((j : ℕ) → j < n → 0 < lengths j) → (rows x : ℕ → ℕ) → IsBelowAll rows → rows ≡ x →
      ((j : ℕ) → j < n → raise net n lengths bounds rows j ≡ rows j) → AreLeastBounds net n lengths bounds x
  unfolding IsBelowAll
  settled some rows x below same left =
      subst (λ y. AreLeastBounds net n lengths bounds y) same
      (record { serve = serves some rows left; least = λ others serve j l. below others serve j })

  rest_least : ((j : ℕ) → j < n → 0 < lengths j) → (more : ℕ) (rows x : ℕ → ℕ) → IsBelowAll rows →
      raises net n lengths bounds caps more rows ≡ Rest x → AreLeastBounds net n lengths bounds x
  unfolding RestsSo
  rest_least some zero rows x below e =
      elim (rests n caps rows (raise net n lengths bounds rows) x (λ j.
      Slow j (rows j) (raise net n lengths bounds rows j)) e) [
        | inl at ↦ settled some rows x below at.bounds_are at.stays
        | inr on ↦ (let never : Slow on.0 (rows on.0) (raise net n lengths bounds rows on.0) ≡ Rest x = on.1 in cc)
      ]
  rest_least some (suc more) rows x below e =
      elim (rests n caps rows (raise net n lengths bounds rows) x (λ j.
      raises net n lengths bounds caps more (raise net n lengths bounds rows)) e) [
        | inl at ↦ settled some rows x below at.bounds_are at.stays
        | inr on ↦ rest_least some more (raise net n lengths bounds rows) x (stays_below rows below) on.1
      ]

  -- a raised bound that passes its cap is at most that of any bounds that serve
  none_fits : (others : ℕ → ℕ) (rows : ℕ → ℕ) (row : ℕ) → IsBelowAll rows →
      AllServe net n lengths bounds others → ((j : ℕ) → j < n → others j ≤ caps j) → row < n →
      caps row < raise net n lengths bounds rows row → ⊥
  unfolding IsBelowAll
  none_fits others rows row below serve within l higher =
      let low : raise net n lengths bounds rows row ≤ others row = stays_below rows below others serve row in
      let high : others row ≤ caps row = within row l in
      absurd (omega (arith, low, high, higher))

  over_none : (others : ℕ → ℕ) → AllServe net n lengths bounds others → ((j : ℕ) → j < n → others j ≤ caps j) →
      (more : ℕ) (rows : ℕ → ℕ) (row value cap : ℕ) → IsBelowAll rows →
      raises net n lengths bounds caps more rows ≡ Over row value cap → ⊥
  unfolding PassesSo
  over_none others serve within zero rows row value cap below e =
      elim (passes n caps rows (raise net n lengths bounds rows) (λ j.
      Slow j (rows j) (raise net n lengths bounds rows j)) row value cap e) [
        | inl at ↦ none_fits others rows row below serve within at.0 at.1
        | inr on ↦ (let never : Slow on.0 (rows on.0) (raise net n lengths bounds rows on.0) ≡ Over row value cap =
            on.1 in cc)
      ]
  over_none others serve within (suc more) rows row value cap below e =
      elim (passes n caps rows (raise net n lengths bounds rows) (λ j.
      raises net n lengths bounds caps more (raise net n lengths bounds rows)) row value cap e) [
        | inl at ↦ none_fits others rows row below serve within at.0 at.1
        | inr on ↦ over_none others serve within more (raise net n lengths bounds rows) row value cap
            (stays_below rows below) on.1
      ]

  from_zero : IsBelowAll (λ j. 0)
  unfolding IsBelowAll
  from_zero others serve j = omega arith

kept : (n : ℕ) (caps rows next x : ℕ → ℕ) → RestsAtOnce n caps rows next x → (j : ℕ) → j < n → x j ≤ caps j
kept n caps rows next x at j l =
    let same : rows j ≡ x j = ap (λ (f : ℕ → ℕ). f j) at.bounds_are in
    omega (arith, at.within j l, at.stays j l, same)

-- raises that come to rest passed no cap
pub rest_within : (net : Net) (n : ℕ) (lengths bounds caps : ℕ → ℕ) (more : ℕ) (rows x : ℕ → ℕ) →
    raises net n lengths bounds caps more rows ≡ Rest x → (j : ℕ) → j < n → x j ≤ caps j
unfolding RestsSo
rest_within net n lengths bounds caps zero rows x e j l =
    elim (rests n caps rows (raise net n lengths bounds rows) x
    (λ i. Slow i (rows i) (raise net n lengths bounds rows i)) e) [
      | inl at ↦ kept n caps rows (raise net n lengths bounds rows) x at j l
      | inr on ↦ (let never : Slow on.0 (rows on.0) (raise net n lengths bounds rows on.0) ≡ Rest x = on.1 in cc)
    ]
rest_within net n lengths bounds caps (suc more) rows x e j l =
    elim (rests n caps rows (raise net n lengths bounds rows) x
    (λ i. raises net n lengths bounds caps more (raise net n lengths bounds rows)) e) [
      | inl at ↦ kept n caps rows (raise net n lengths bounds rows) x at j l
      | inr on ↦ rest_within net n lengths bounds caps more (raise net n lengths bounds rows) x on.1 j l
    ]

pub rest_is_least : TotalsGrow → NoTotalIsNegative → RestIsLeast
rest_is_least grow none net n lengths bounds caps rows inside some e =
    rest_least grow none net n lengths bounds caps some 63 (λ j.
    0) rows (from_zero grow none net n lengths bounds caps) e

pub over_has_none : TotalsGrow → NoTotalIsNegative → OverHasNone
over_has_none grow none net n lengths bounds caps others row value cap inside e serve within =
    over_none grow none net n lengths bounds caps others serve within 63 (λ j.
    0) row value cap (from_zero grow none net n lengths bounds caps) e
