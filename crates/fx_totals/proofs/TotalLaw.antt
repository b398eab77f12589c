-- The magnitude of a target is at most its total, as no gain is less than a product that it bounds.
use Rattle.std.proofs.Common.{◌≡◌, ℕ, zero, suc, ◌+◌, ◌*◌, ◌<◌, ◌≤◌, arith, refl, subst, true, false, cond}
use Rattle.std.proofs.Math.IntN.{ℤ, pos, negsuc, ◌+ℤ◌, ◌-ℤ◌, ◌*ℤ◌, neg_ℤ}
use Rattle.std.specs.Int.Signed.{◌≤ℤ◌}
use Rattle.std.specs.Prelude.{unsigned_abs, nat_lt}
use Rattle.std.proofs.lemmas.Int.{ints}
use Rattle.fx_math.specs.Sums.{total}
use Rattle.fx_math.specs.Unroll.{lagged}
use Rattle.fx_math.proofs.Ring.{mul-le, mul-neg}
use Rattle.fx_math.proofs.Sums.{total_le}
use Rattle.fx_eqs.specs.declared.limits.TheConstants.{PORTS}
use Rattle.fx_nums.specs.Interval.{Interval, magnitude}
use Rattle.fx_net.specs.Blocks.{block_den}
use Rattle.fx_net.specs.Net.{Net}
use Rattle.fx_sweep.specs.Gains.{rest}
use Rattle.fx_sweep.specs.Target.{start_of}
use Rattle.fx_sweep.specs.Weights.{inputs}
use Rattle.fx_totals.specs.Bounds.{least_product, greatest_product, least_sum, greatest_sum, target_value}
use Rattle.fx_totals.specs.Laws.{IsBetween, TargetsLieBetween, TotalsBound}
use Rattle.fx_totals.specs.Totals.{input_part, rounding, width_part, rest_part}
use Rattle.fx_totals.proofs.Inequalities.{greatest_within, least_within, gains_collect, total_pos}
use Rattle.fx_totals.proofs.OneSide.{rest_before}
use Rattle.fx_totals.proofs.TwoSides.{total_minus}

-- a bound of the words of a run bounds them n moments before moment k
lagged_within : (u : ℕ → ℕ → ℤ) (k n j b : ℕ) → ((h : ℕ) → k ≡ h + n → unsigned_abs (u h j) ≤ b) →
    unsigned_abs (lagged u k n j) ≤ b
lagged_within u k zero j b w = w k (omega arith)
lagged_within u zero (suc n) j b w = omega arith
lagged_within u (suc k) (suc n) j b w = lagged_within u k n j b (λ h e. w h (omega (arith, e)))

module _ (net : Net) (start : ℕ → Interval) (m k : ℕ) (u : ℕ → ℕ → ℤ) (bounds : ℕ → ℕ)
    (within : (n j : ℕ) → n < m → j < PORTS → unsigned_abs (lagged u k n j) ≤ bounds j) where
  abbrev most : ℕ → ℤ
  most n = total PORTS (λ j. pos (magnitude (inputs net start n j)) *ℤ pos (bounds j))

  most_is : total m most ≡ input_part net start m bounds
  most_is = gains_collect m PORTS (λ n j. magnitude (inputs net start n j)) bounds

  pub greatest_in_part : greatest_sum net start m k u ≤ℤ input_part net start m bounds
  greatest_in_part =
      subst (λ x. greatest_sum net start m k u ≤ℤ x) most_is
      (total_le m (λ n. total PORTS (λ j. greatest_product (inputs net start n j) (lagged u k n j))) most
      (λ n l. total_le PORTS (λ j. greatest_product (inputs net start n j) (lagged u k n j)) (λ j.
      pos (magnitude (inputs net start n j)) *ℤ pos (bounds j))
      (λ j h. greatest_within (inputs net start n j) (lagged u k n j) (bounds j) (within n j l h))))

  pub least_in_part : neg_ℤ (least_sum net start m k u) ≤ℤ input_part net start m bounds
  least_in_part =
      subst (λ x. neg_ℤ (least_sum net start m k u) ≤ℤ x) most_is
      (subst (λ x. x ≤ℤ total m most)
      (total_minus m (λ n. total PORTS (λ j. neg_ℤ (least_product (inputs net start n j) (lagged u k n j))))
      (λ n. total PORTS (λ j. least_product (inputs net start n j) (lagged u k n j)))
      (λ n l. total_minus PORTS (λ j. neg_ℤ (least_product (inputs net start n j) (lagged u k n j))) (λ j.
      least_product (inputs net start n j) (lagged u k n j)) (λ j h. refl)))
      (total_le m (λ n. total PORTS (λ j. neg_ℤ (least_product (inputs net start n j) (lagged u k n j)))) most
      (λ n l. total_le PORTS (λ j. neg_ℤ (least_product (inputs net start n j) (lagged u k n j))) (λ j.
      pos (magnitude (inputs net start n j)) *ℤ pos (bounds j))
      (λ j h. least_within (inputs net start n j) (lagged u k n j) (bounds j) (within n j l h)))))

rests_count : (net : Net) (start : ℕ → Interval) (m k : ℕ) (rows : ℕ → ℕ) →
    rest_before net start m k rows ≤ℤ rest_part net start m rows
rests_count net start m k rows =
    let e = total_pos net.rows (λ i. rest net start m i * rows i) in
    elim (nat_lt k m) as (λ t. cond t (pos 0) (rest_part net start m rows) ≤ℤ rest_part net start m rows) [
      | true ↦ rw e (omega (arith, ints))
      | false ↦ omega (arith, ints)
    ]

magnitude_within : (s t : ℤ) → s ≤ℤ t → neg_ℤ s ≤ℤ t → pos (unsigned_abs s) ≤ℤ t
magnitude_within (pos n) t h k = h
magnitude_within (negsuc n) t h k = k

both_within : (d : ℕ) (t g l i h w r r' : ℤ) → t ≤ℤ (pos d *ℤ (g +ℤ (h +ℤ w +ℤ r))) →
    (pos d *ℤ (l -ℤ (h +ℤ w +ℤ r))) ≤ℤ t →
    g ≤ℤ i → neg_ℤ l ≤ℤ i → r ≤ℤ r' → pos (unsigned_abs t) ≤ℤ (pos d *ℤ (i +ℤ h +ℤ w +ℤ r'))
both_within d t g l i h w r r' above below a b c =
    let whole : ℤ = i +ℤ h +ℤ w +ℤ r' in
    let high : (pos d *ℤ (g +ℤ (h +ℤ w +ℤ r))) ≤ℤ (pos d *ℤ whole) =
    mul-le d (g +ℤ (h +ℤ w +ℤ r)) whole (omega (arith, ints, a, c)) in
    let low : (pos d *ℤ neg_ℤ whole) ≤ℤ (pos d *ℤ (l -ℤ (h +ℤ w +ℤ r))) =
    mul-le d (neg_ℤ whole) (l -ℤ (h +ℤ w +ℤ r)) (omega (arith, ints, b, c)) in
    magnitude_within t (pos d *ℤ whole) (omega (arith, ints, above, high))
    (omega (arith, ints, below, low, mul-neg (pos d) whole))

pub totals_bound : TargetsLieBetween → TotalsBound
totals_bound between net target q m k u z p bounds rows fits den run some known =
    let b : IsBetween net target q m k u z rows = between net target q m k u z p bounds rows fits den run some known in
    let within : (n j : ℕ) → n < m → j < PORTS → unsigned_abs (lagged u k n j) ≤ bounds j =
    λ n j l h. lagged_within u k n j (bounds j) (λ g e. known.words g n j e l h) in
    both_within (block_den net q k) (target_value net target q z k) (greatest_sum net (start_of target) m k u)
    (least_sum net (start_of target) m k u)
    (input_part net (start_of target) m bounds) (rounding net (start_of target) m)
    (width_part net (start_of target) m rows) (rest_before net (start_of target) m k rows)
    (rest_part net (start_of target) m rows)
    b.greatest b.least
    (greatest_in_part net (start_of target) m k u bounds within)
    (least_in_part net (start_of target) m k u bounds within) (rests_count net (start_of target) m k rows)
