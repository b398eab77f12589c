-- The block law, with what lies before the block in terms of bounds.
use Rattle.std.proofs.Common.{◌≡◌, ℕ, ◌*◌, ◌<◌, ◌≤◌, arith, refl, sym, ◌∙◌, subst, inl, inr, cond}
use Rattle.std.proofs.Math.IntN.{ℤ, pos, ◌+ℤ◌, ◌*ℤ◌}
use Rattle.std.specs.Int.Signed.{◌≤ℤ◌}
use Rattle.std.specs.Prelude.{unsigned_abs, nat_lt}
use Rattle.std.proofs.lemmas.Int.{ints}
use Rattle.std.proofs.lemmas.Bool.{cases_lt, lt-ltb, le-ltb}
use Rattle.fx_math.specs.Sums.{total}
use Rattle.fx_math.proofs.Ring.{mul-add}
use Rattle.fx_math.proofs.Sums.{total_ext, total_zero}
use Rattle.fx_nums.specs.Interval.{Interval, magnitude}
use Rattle.fx_net.specs.Blocks.{IsBlock}
use Rattle.fx_net.specs.Net.{Net}
use Rattle.fx_net.specs.Run.{IsDenominator}
use Rattle.fx_sweep.specs.Weights.{carried}
use Rattle.fx_sweep.proofs.Moments.{carried_sum}
use Rattle.fx_sweep.proofs.Sides.{upper, upper_nothing}
use Rattle.fx_totals.specs.Bounds.{slack}
use Rattle.fx_totals.specs.Totals.{rounding, width_part, rest_part}
use Rattle.fx_totals.proofs.BlockLaw.{InBounds, uppers_at, block_law}
use Rattle.fx_totals.proofs.Inequalities.{factored, rest_within}

-- ---- what lies before the block

-- the rests, where something lies before
abbrev pub rest_before : Net → (ℕ → Interval) → ℕ → ℕ → (ℕ → ℕ) → ℤ
rest_before net start m k rows = cond (nat_lt k m) (pos 0) (rest_part net start m rows)

module _ (net : Net) (start : ℕ → Interval) (m k d : ℕ) (v : ℕ → ℕ → ℤ) (rows : ℕ → ℕ) where
  nothing_before : ((i : ℕ) → i < net.rows → v m i ≡ pos 0) → carried_sum net start v m ≡ pos 0
  nothing_before none =
      total_ext net.rows (λ j. upper (carried net start m j) (v m j)) (λ j. pos 0) (λ j l.
      upper_nothing (carried net start m j) (v m j) (none j l))
      ∙ total_zero net.rows

  all_before : ((i : ℕ) → i < net.rows → unsigned_abs (v m i) ≤ rows i * d) →
      carried_sum net start v m ≤ℤ (pos d *ℤ rest_part net start m rows)
  all_before within =
      factored d net.rows (λ j. upper (carried net start m j) (v m j)) (λ i.
      pos (magnitude (carried net start m i) * rows i))
      (λ i l. rest_within d (carried net start m i) (v m i) (rows i) (within i l))

  before_within : ((i : ℕ) → i < net.rows → unsigned_abs (v m i) ≤ rows i * d) →
      (k < m → (i : ℕ) → i < net.rows → v m i ≡ pos 0) →
      carried_sum net start v m ≤ℤ (pos d *ℤ rest_before net start m k rows)
  before_within within none = elim (cases_lt k m) [
    | inl l ↦ (let e : rest_before net start m k rows ≡ pos 0 = rw (lt-ltb k m l) refl in
        let z : carried_sum net start v m ≡ pos 0 = nothing_before (none l) in
        rw (e, z) (omega (arith, ints)))
    | inr l ↦ (let e : rest_before net start m k rows ≡ rest_part net start m rows = rw (le-ltb k m l) refl in
        subst (λ x. carried_sum net start v m ≤ℤ (pos d *ℤ x)) (sym e) (all_before within))
  ]

-- ---- one side

-- the block law with what lies before the block among the rest
abbrev pub UpperSide : Net → (ℕ → Interval) → ℕ → ℕ → ℕ → (ℕ → ℕ → ℤ) → (ℕ → ℕ → ℤ) → (ℕ → ℕ) → Type 0
UpperSide net start m k d v u rows =
    carried_sum net start v 0 ≤ℤ (pos d *ℤ (total m (uppers_at net start u) +ℤ slack net start m k rows))

gathered : (d : ℕ) (all i w h rest r : ℤ) → all ≤ℤ (pos d *ℤ (i +ℤ w +ℤ h) +ℤ rest) → rest ≤ℤ (pos d *ℤ r) →
    all ≤ℤ (pos d *ℤ (i +ℤ (h +ℤ w +ℤ r)))
gathered d all i w h rest r a b =
    omega (
      arith,
      ints,
      a,
      b,
      mul-add (pos d) (i +ℤ w) h,
      mul-add (pos d) i w,
      mul-add (pos d) i (h +ℤ w +ℤ r),
      mul-add (pos d) (h +ℤ w) r,
      mul-add (pos d) h w,
    )

pub upper_side : (net : Net) (q d : ℕ) (v u p : ℕ → ℕ → ℤ) → IsDenominator net q → IsBlock net q d v u p →
    (start : ℕ → Interval) (m k : ℕ) (rows : ℕ → ℕ) → InBounds net start m d v p rows →
    ((i : ℕ) → i < net.rows → unsigned_abs (v m i) ≤ rows i * d) → (k < m → (i : ℕ) → i < net.rows → v m i ≡ pos 0) →
    UpperSide net start m k d v u rows
upper_side net q d v u p den block start m k rows b within none =
    gathered d (carried_sum net start v 0) (total m (uppers_at net start u)) (width_part net start m rows)
    (rounding net start m) (carried_sum net start v m) (rest_before net start m k rows)
    (block_law net q d v u p den block start m rows b)
    (before_within net start m k d v rows within none)
