-- Bounds for all time, by induction over the moments and, in a moment, over the rows.
use Rattle.std.proofs.Common.{◌≡◌, ℕ, zero, suc, ◌+◌, ◌*◌, ◌-◌, ◌/◌, ◌^◌, ◌<◌, ◌≤◌, arith, ap, sym, ◌∙◌, subst}
use Rattle.std.proofs.Common.{inl, inr, lit<}
use Rattle.std.proofs.Math.IntN.{ℤ, pos, ◌*ℤ◌}
use Rattle.std.proofs.Math.Nat.{le_of_mul-le-mul_left, le_of_mul-le-mul_right, one-le-pow}
use Rattle.std.specs.Int.Signed.{◌≤ℤ◌}
use Rattle.std.specs.Prelude.{unsigned_abs}
use Rattle.std.proofs.lemmas.Int.{ints, unsigned_abs-mul}
use Rattle.std.proofs.lemmas.Bool.{cases_lt}
use Rattle.fx_math.specs.Sums.{total}
use Rattle.fx_math.specs.Unroll.{before}
use Rattle.fx_math.proofs.Ring.{mul-le}
use Rattle.fx_math.proofs.Sums.{total_ext, total_zero}
use Rattle.fx_eqs.specs.declared.limits.TheConstants.{PORTS}
use Rattle.fx_nums.specs.Fraction.{Fraction, over, zero_fraction}
use Rattle.fx_net.specs.Blocks.{block_den, raise, raised}
use Rattle.fx_net.specs.Net.{Net}
use Rattle.fx_net.specs.Rows.{AreEmpty}
use Rattle.fx_net.specs.Run.{IsDenominator, IsRun, row_sum, row_time}
use Rattle.fx_net.proofs.Blocked.{to_den}
use Rattle.fx_sweep.specs.Target.{one, start_of}
use Rattle.fx_sweep.specs.declared.target.Target.TheVariants.{Row}
use Rattle.fx_totals.specs.AllTime.{WordsWithin, ServesNext, BoundsServe, BoundsHoldForAllTime, BoundsSuffice}
use Rattle.fx_totals.specs.Bounds.{IsBounded, target_value}
use Rattle.fx_totals.specs.Laws.{TotalsBound}
use Rattle.fx_totals.specs.Totals.{target_total}
use Rattle.fx_totals.proofs.OneRow.{row_targets}

-- w |z| r ≤ d t and t ≤ x w, with d = g r: so |z| ≤ x g
scaled_down : (w a d x r g : ℕ) (t : ℤ) → 0 < w → 0 < r → g * r ≡ d → pos (w * (a * r)) ≤ℤ (pos d *ℤ t) →
    t ≤ℤ (pos x *ℤ pos w) → a ≤ x * g
scaled_down w a d x r g t hw hr e h k =
    let first : (pos d *ℤ t) ≤ℤ (pos d *ℤ (pos x *ℤ pos w)) = mul-le d t (pos x *ℤ pos w) k in
    let second : w * (a * r) ≤ w * (d * x) = omega (arith, ints, first, h) in
    let third : a * r ≤ d * x = le_of_mul-le-mul_left second hw in
    let fourth : d * x ≡ g * r * x = ap (λ n. n * x) (sym e) in
    let fifth : a * r ≤ (x * g) * r = omega (arith, third, fourth) in
    le_of_mul-le-mul_right fifth hr

-- ---- empty rows

nothing_read : (n : ℕ) (c : ℕ → Fraction) (x : ℕ → ℤ) (r : ℕ → ℕ) (q : ℕ) → ((s : ℕ) → c s ≡ zero_fraction) →
    total n (λ j. over q (c j) *ℤ x j *ℤ pos (r j)) ≡ pos 0
nothing_read n c x r q e =
    total_ext n (λ j. over q (c j) *ℤ x j *ℤ pos (r j)) (λ j. pos 0)
    (λ j l. ap (λ (y : Fraction). over q y *ℤ x j *ℤ pos (r j)) (e j) ∙ nothing (q / 1) (x j) (pos (r j)))
    ∙ total_zero n
  where
    none : (y : ℤ) → pos 0 *ℤ y ≡ pos 0
    none y = omega (arith, ints)

    nothing : (a : ℕ) (b c : ℤ) → pos 0 *ℤ pos a *ℤ b *ℤ c ≡ pos 0
    nothing a b c = ap (λ y. y *ℤ b *ℤ c) (none (pos a)) ∙ ap (λ y. y *ℤ c) (none b) ∙ none c

empty_sum : (net : Net) (q : ℕ) (u z : ℕ → ℕ → ℤ) (k i : ℕ) → AreEmpty i 1 net → row_sum net q u z k i ≡ pos 0
unfolding row_sum
empty_sum net q u z k i e =
    let now = nothing_read i (λ j. net.now i j) (z k) (λ j. q ^ (i - j - 1)) q (λ s.
    e.now i s (omega arith) (omega arith)) in
    let old = nothing_read net.rows (λ j. net.old i j) (before z k) (λ j. q ^ (net.rows + i - j - 1)) q (λ s.
    e.old i s (omega arith) (omega arith)) in
    let input = nothing_read PORTS (λ j. net.input i j) (u k) (λ j. q ^ row_time net k i) q (λ s.
    e.input i s (omega arith) (omega arith)) in
    omega (arith, ints, now, old, input)

-- ---- all rows, at all moments

pub bounds_suffice : BoundsSuffice
bounds_suffice net target q m k u z bounds rows words values = record {
  words = λ h n j e l r. words h j r;
  before = λ h n i e a b l. values h i l;
  at_last = λ i l n. values k i l;
}

module _ (net : Net) (q : ℕ) (u z p : ℕ → ℕ → ℤ) (lengths bounds rows : ℕ → ℕ)
    (bound : TotalsBound) (den : IsDenominator net q) (run : IsRun net q u z p) (words : WordsWithin bounds u) where
  Holds : ℕ → ℕ → Type 0
  Holds k i = unsigned_abs (z k i) ≤ rows i * q ^ (row_time net k i + 1)

  empty_at : (k i : ℕ) → i < net.rows → AreEmpty i 1 net → Holds k i
  unfolding Holds
  empty_at k i l e =
      let h : 2 * unsigned_abs (p k i) ≤ net.class i * q ^ (row_time net k i + 1) = run.small k i l in
      let n : net.class i * q ^ (row_time net k i + 1) ≡ 0 =
      ap (λ x. x * q ^ (row_time net k i + 1)) (e.class i (omega arith) (omega arith)) ∙ omega arith in
      let zero_is : unsigned_abs (z k i) ≡ 0 = omega (arith, ints, run.row k i l, empty_sum net q u z k i e, h, n) in
      omega (arith, zero_is)

  known_at : (k i m : ℕ) → ((h j : ℕ) → h < k → j < net.rows → Holds h j) → ((j : ℕ) → j < i → Holds k j) →
      IsBounded net (Row i) q m k u z bounds rows
  unfolding Holds
  known_at k i m earlier here = record {
    words = λ h n j e l r. words h j r;
    before = λ h n j e a b l. earlier h j (omega (arith, e)) l;
    at_last = λ j l n. here j n;
  }

  full_at : (k i : ℕ) → i < net.rows → ((h j : ℕ) → h < k → j < net.rows → Holds h j) → ((j : ℕ) → j < i → Holds k j) →
      ServesNext net i (lengths i) bounds rows → Holds k i
  unfolding Holds
  full_at k i l earlier here serves =
      let d : ℕ = block_den net q k in
      let t : ℤ = target_total net (start_of (Row i)) (lengths i) bounds rows in
      let r : ℕ = raise net q 0 i in
      let within : pos (unsigned_abs (target_value net (Row i) q z k)) ≤ℤ (pos d *ℤ t) =
      bound net (Row i) q (lengths i) k u z p bounds rows l den run serves.some
      (known_at k i (lengths i) earlier here) in
      let value : unsigned_abs (target_value net (Row i) q z k) ≡ 2 ^ 64 * (unsigned_abs (z k i) * r) =
      ap unsigned_abs (row_targets net q z k i l) ∙ unsigned_abs-mul one (raised net q z k 0 i)
      ∙ ap (λ x. 2 ^ 64 * x) (unsigned_abs-mul (z k i) (pos r)) in
      scaled_down (2 ^ 64) (unsigned_abs (z k i)) d (rows i) r (q ^ (row_time net k i + 1)) t
      (lit< tt) (one-le-pow (0 * net.rows + (net.rows - (i + 1))) q den.positive) (to_den net q k k 0 i (omega arith) l)
      (subst (λ x. pos x ≤ℤ (pos d *ℤ t)) value within) serves.total

  row_at : (k i : ℕ) → i < net.rows → BoundsServe net lengths bounds rows →
      ((h j : ℕ) → h < k → j < net.rows → Holds h j) →
      ((j : ℕ) → j < i → Holds k j) → Holds k i
  row_at k i l serve earlier here = elim (serve i l) [ inl e ↦ empty_at k i l e | inr s ↦ full_at k i l earlier here s ]

  rows_before : (k : ℕ) → BoundsServe net lengths bounds rows → ((h j : ℕ) → h < k → j < net.rows → Holds h j) →
      (n : ℕ) → n ≤ net.rows → (j : ℕ) → j < n → Holds k j
  rows_before k serve earlier zero l j h = absurd (omega arith)
  rows_before k serve earlier (suc n) l j h = elim (cases_lt j n) [
    | inl b ↦ rows_before k serve earlier n (omega arith) j b
    | inr b ↦ subst (λ x. Holds k x) (let e : n ≡ j = omega arith in e)
        (row_at k n (omega arith) serve earlier (rows_before k serve earlier n (omega arith)))
  ]

  moments_before : BoundsServe net lengths bounds rows → (k h i : ℕ) → h < k → i < net.rows → Holds h i
  moments_before serve zero h i l r = absurd (omega arith)
  moments_before serve (suc k) h i l r = elim (cases_lt h k) [
    | inl b ↦ moments_before serve k h i b r
    | inr b ↦ subst (λ x. Holds x i) (let e : k ≡ h = omega arith in e)
        (rows_before k serve (moments_before serve k) net.rows (omega arith) i r)
  ]

pub bounds_hold : TotalsBound → BoundsHoldForAllTime
unfolding Holds
bounds_hold bound net q u z p lengths bounds rows den run words serve k i l =
    moments_before net q u z p lengths bounds rows bound den run words serve (suc k) k i (omega arith) l
