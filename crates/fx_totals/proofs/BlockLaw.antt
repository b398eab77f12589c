-- A block's carried sum is at most its inputs' products, what was cut off, the roundings and what lies before the
-- block.
use Rattle.std.proofs.Common.{◌≡◌, ◌⊎◌, ℕ, ◌*◌, ◌<◌, ◌≤◌, arith, ap, ap₂, sym, ◌∙◌, subst, inl, inr}
use Rattle.std.proofs.Math.IntN.{ℤ, pos, ◌+ℤ◌, ◌*ℤ◌}
use Rattle.std.specs.Int.Signed.{◌≤ℤ◌}
use Rattle.std.specs.Prelude.{unsigned_abs}
use Rattle.std.proofs.lemmas.Int.{ints}
use borrow.Author.Differences.{up}
use Rattle.fx_math.specs.Sums.{total}
use Rattle.fx_math.proofs.Sums.{total_add, total_mul, collect}
use Rattle.fx_eqs.specs.declared.limits.TheConstants.{PORTS}
use Rattle.fx_nums.specs.Arithmetic.{width}
use Rattle.fx_nums.specs.Interval.{Interval}
use Rattle.fx_net.specs.Blocks.{IsBlock}
use Rattle.fx_net.specs.Net.{Net}
use Rattle.fx_net.specs.Run.{IsDenominator}
use Rattle.fx_sweep.specs.Gains.{row_gain}
use Rattle.fx_sweep.specs.Ordered.{AreOrdered}
use Rattle.fx_sweep.specs.Weights.{settled, inputs}
use Rattle.fx_sweep.proofs.Moments.{moment_part, carried_sum, block_sum}
use Rattle.fx_sweep.proofs.Ordered.{settled_ordered}
use Rattle.fx_sweep.proofs.Sides.{upper, upper_scaled}
use Rattle.fx_totals.specs.Totals.{rounding, width_part}
use Rattle.fx_totals.proofs.Inequalities.{width_within, no_width, perturbed_within, half_up, factored}
use Rattle.fx_totals.proofs.Inequalities.{gains_collect, twice_within, once_within}

-- what is known of a block in the m moments of a sweep
pub record InBounds (net : Net) (start : ℕ → Interval) (m d : ℕ) (v p : ℕ → ℕ → ℤ) (rows : ℕ → ℕ) : Type 0 where
  pub small : (n i : ℕ) → n < m → i < net.rows → 2 * unsigned_abs (p n i) ≤ net.class i * d
  pub values : (n i : ℕ) → n < m → i < net.rows →
      (width (settled net start n i) ≡ pos 0) ⊎ (unsigned_abs (v n i) ≤ rows i * d)
  pub ordered : AreOrdered start

-- the upper ends of the inputs' products in moment n
abbrev pub uppers_at : Net → (ℕ → Interval) → (ℕ → ℕ → ℤ) → ℕ → ℤ
uppers_at net start u n = total PORTS (λ j. upper (inputs net start n j) (u n j))

abbrev cut_at : Net → (ℕ → Interval) → (ℕ → ℕ) → ℕ → ℤ
cut_at net start rows n = total net.rows (λ i. width (settled net start n i) *ℤ pos (rows i))

abbrev classes_at : Net → (ℕ → Interval) → ℕ → ℤ
classes_at net start n = total net.rows (λ i. pos (unsigned_abs (settled net start n i).lo) *ℤ pos (net.class i))

abbrev classes : Net → (ℕ → Interval) → ℕ → ℤ
classes net start m = total net.rows (λ i. pos (row_gain net start m i * net.class i))

moment_within : (net : Net) (start : ℕ → Interval) (m d : ℕ) (v u p : ℕ → ℕ → ℤ) (rows : ℕ → ℕ) →
    InBounds net start m d v p rows → (n : ℕ) → n < m →
    (pos 2 *ℤ moment_part net start d v u p n) ≤ℤ
    (pos d *ℤ (pos 2 *ℤ (uppers_at net start u n +ℤ cut_at net start rows n) +ℤ classes_at net start n))
moment_within net start m d v u p rows b n l =
    let wide : (i : ℕ) → pos 0 ≤ℤ width (settled net start n i) =
    λ i. (let o : (settled net start n i).lo ≤ℤ (settled net start n i).hi =
    settled_ordered net start b.ordered n i in omega (arith, ints, o)) in
    let ws : total net.rows (λ j. width (settled net start n j) *ℤ pos (up (v n j))) ≤ℤ
    (pos d *ℤ cut_at net start rows n) =
    factored d net.rows (λ j. width (settled net start n j) *ℤ pos (up (v n j))) (λ i.
    width (settled net start n i) *ℤ pos (rows i))
    (λ i k. let w = b.values n i l k in elim w [
      | inl e ↦ no_width d (width (settled net start n i)) (v n i) (rows i) e
      | inr e ↦ width_within d (width (settled net start n i)) (v n i) (rows i) (wide i) e
    ]) in
    let us : total PORTS (λ j. upper (inputs net start n j) (u n j *ℤ pos d)) ≤ℤ (pos d *ℤ uppers_at net start u n) =
    factored d PORTS (λ j. upper (inputs net start n j) (u n j *ℤ pos d)) (λ j. upper (inputs net start n j) (u n j))
    (λ j k. let e : upper (inputs net start n j) (u n j *ℤ pos d)
    ≡ pos d *ℤ upper (inputs net start n j) (u n j) =
    upper_scaled d (inputs net start n j) (u n j) in omega (arith, ints, e)) in
    let ps : total net.rows (λ j. pos 2 *ℤ ((settled net start n j).lo *ℤ p n j)) ≤ℤ (pos d *ℤ classes_at net start n) =
    factored d net.rows (λ j. pos 2 *ℤ ((settled net start n j).lo *ℤ p n j)) (λ i.
    pos (unsigned_abs (settled net start n i).lo) *ℤ pos (net.class i))
    (λ i k. perturbed_within (settled net start n i).lo (p n i) (net.class i) d (b.small n i l k)) in
    let e : pos 2 *ℤ total net.rows (λ j. (settled net start n j).lo *ℤ p n j)
    ≡ total net.rows (λ j. pos 2 *ℤ ((settled net start n j).lo *ℤ p n j)) =
    total_mul (pos 2) net.rows (λ j. (settled net start n j).lo *ℤ p n j) in
    twice_within d
    (total net.rows (λ j. width (settled net start n j) *ℤ pos (up (v n j))))
    (total PORTS (λ j. upper (inputs net start n j) (u n j *ℤ pos d)))
    (total net.rows (λ j. (settled net start n j).lo *ℤ p n j))
    (total net.rows (λ j. pos 2 *ℤ ((settled net start n j).lo *ℤ p n j)))
    (cut_at net start rows n) (uppers_at net start u n) (classes_at net start n) ws us ps e

moments_add_up : (net : Net) (start : ℕ → Interval) (m : ℕ) (u : ℕ → ℕ → ℤ) (rows : ℕ → ℕ) →
    total m (λ n. pos 2 *ℤ (uppers_at net start u n +ℤ cut_at net start rows n) +ℤ classes_at net start n)
    ≡ pos 2 *ℤ (total m (uppers_at net start u) +ℤ width_part net start m rows) +ℤ classes net start m
moments_add_up net start m u rows =
    total_add m (λ n. pos 2 *ℤ (uppers_at net start u n +ℤ cut_at net start rows n)) (classes_at net start)
    ∙ ap₂ (λ x y. x +ℤ y)
    (sym (total_mul (pos 2) m (λ n. uppers_at net start u n +ℤ cut_at net start rows n))
    ∙ ap (λ x. pos 2 *ℤ x)
    (total_add m (uppers_at net start u) (cut_at net start rows)
    ∙ ap (λ x. total m (uppers_at net start u) +ℤ x) (collect m net.rows (λ n i.
    width (settled net start n i)) (λ i. pos (rows i)))))
    (gains_collect m net.rows (λ n i. unsigned_abs (settled net start n i).lo) net.class)

pub block_law : (net : Net) (q d : ℕ) (v u p : ℕ → ℕ → ℤ) → IsDenominator net q → IsBlock net q d v u p →
    (start : ℕ → Interval) (m : ℕ) (rows : ℕ → ℕ) → InBounds net start m d v p rows →
    carried_sum net start v 0
    ≤ℤ (pos d *ℤ (total m (uppers_at net start u) +ℤ width_part net start m rows +ℤ rounding net start m) +ℤ
    carried_sum net start v m)
block_law net q d v u p den block start m rows b =
    let one : pos 2 *ℤ total m (moment_part net start d v u p)
    ≡ total m (λ n. pos 2 *ℤ moment_part net start d v u p n) =
    total_mul (pos 2) m (moment_part net start d v u p) in
    let le : total m (λ n. pos 2 *ℤ moment_part net start d v u p n) ≤ℤ
    (pos d *ℤ total m (λ n. pos 2 *ℤ (uppers_at net start u n +ℤ cut_at net start rows n) +ℤ classes_at net
    start n)) =
    factored d m (λ n. pos 2 *ℤ moment_part net start d v u p n) (λ n.
    pos 2 *ℤ (uppers_at net start u n +ℤ cut_at net start rows n) +ℤ classes_at net start n)
    (moment_within net start m d v u p rows b) in
    once_within d (carried_sum net start v 0) (total m (moment_part net start d v u p))
    (carried_sum net start v m) (total m (uppers_at net start u)) (width_part net start m rows)
    (classes net start m) (rounding net start m)
    (block_sum net q d v u p den block start m)
    (rw one (subst (λ x. total m (λ n. pos 2 *ℤ moment_part net start d v u p n) ≤ℤ (pos d *ℤ x))
    (moments_add_up net start m u rows) le))
    (half_up (classes net start m))
