-- Totals grow with the bounds, and none is negative.
use Rattle.std.proofs.Common.{ℕ, ◌*◌, ◌<◌, ◌≤◌, arith, subst}
use Rattle.std.proofs.Math.IntN.{ℤ, pos, ◌*ℤ◌}
use Rattle.std.proofs.Math.Nat.{mul-le-mul_left}
use Rattle.std.specs.Int.Signed.{◌≤ℤ◌}
use Rattle.std.proofs.lemmas.Int.{ints}
use Rattle.fx_math.specs.Sums.{total}
use Rattle.fx_math.proofs.Sums.{total_le, total_zero}
use Rattle.fx_eqs.specs.declared.limits.TheConstants.{PORTS}
use Rattle.fx_nums.specs.Arithmetic.{width}
use Rattle.fx_nums.specs.Interval.{Interval}
use Rattle.fx_net.specs.Net.{Net}
use Rattle.fx_sweep.specs.Gains.{widths, row_gain, input_gain, rest}
use Rattle.fx_sweep.specs.Ordered.{AreOrdered}
use Rattle.fx_sweep.specs.Weights.{settled}
use Rattle.fx_sweep.proofs.Ordered.{settled_ordered}
use Rattle.fx_totals.specs.Growth.{TotalsGrow, NoTotalIsNegative}
use Rattle.fx_totals.specs.Totals.{rounding, width_part}
use Rattle.fx_totals.proofs.Inequalities.{longer, half_up}

products_grow : (n : ℕ) (g x y : ℕ → ℕ) → ((i : ℕ) → i < n → x i ≤ y i) →
    total n (λ i. pos (g i * x i)) ≤ℤ total n (λ i. pos (g i * y i))
products_grow n g x y h =
    total_le n (λ i. pos (g i * x i)) (λ i. pos (g i * y i)) (λ i l. omega (arith, ints, mul-le-mul_left (g i) (h i l)))

pub not_negative : (n : ℕ) (f : ℕ → ℤ) → ((i : ℕ) → pos 0 ≤ℤ f i) → pos 0 ≤ℤ total n f
not_negative n f h = subst (λ x. x ≤ℤ total n f) (total_zero n) (total_le n (λ i. pos 0) f (λ i l. h i))

pub widths_not_negative : (net : Net) (start : ℕ → Interval) → AreOrdered start → (m i : ℕ) →
    pos 0 ≤ℤ widths net start m i
widths_not_negative net start h m i =
    not_negative m (λ n. width (settled net start n i))
    (λ n. let o : (settled net start n i).lo ≤ℤ (settled net start n i).hi =
    settled_ordered net start h n i in omega (arith, ints, o))

width_parts_grow : (net : Net) (start : ℕ → Interval) (m : ℕ) (x y : ℕ → ℕ) → AreOrdered start →
    ((i : ℕ) → i < net.rows → x i ≤ y i) →
    width_part net start m x ≤ℤ width_part net start m y
width_parts_grow net start m x y o h =
    total_le net.rows (λ i. widths net start m i *ℤ pos (x i)) (λ i. widths net start m i *ℤ pos (y i))
    (λ i l. longer (widths net start m i) (x i) (y i) (widths_not_negative net start o m i) (h i l))

pub totals_grow : TotalsGrow
totals_grow net start m bounds more x y o b h =
    omega (
      arith,
      ints,
      products_grow PORTS (λ j. input_gain net start m j) bounds more b,
      width_parts_grow net start m x y o h,
      products_grow net.rows (λ i. rest net start m i) x y h,
    )

sum_not_negative : (n : ℕ) (f : ℕ → ℕ) → pos 0 ≤ℤ total n (λ i. pos (f i))
sum_not_negative n f = not_negative n (λ i. pos (f i)) (λ i. omega (arith, ints))

rounding_not_negative : (net : Net) (start : ℕ → Interval) (m : ℕ) → pos 0 ≤ℤ rounding net start m
rounding_not_negative net start m =
    omega (
      arith,
      ints,
      half_up (total net.rows (λ i. pos (row_gain net start m i * net.class i))),
      sum_not_negative net.rows (λ i. row_gain net start m i * net.class i),
    )

pub no_total_is_negative : NoTotalIsNegative
no_total_is_negative net start m bounds rows o =
    let widths_are : pos 0 ≤ℤ width_part net start m rows =
    not_negative net.rows (λ i. widths net start m i *ℤ pos (rows i))
    (λ i. let w : (widths net start m i *ℤ pos 0) ≤ℤ (widths net start m i *ℤ pos (rows i)) =
    longer (widths net start m i) 0 (rows i) (widths_not_negative net start o m i) (omega arith) in
    omega (arith, ints, w)) in
    omega (
      arith,
      ints,
      sum_not_negative PORTS (λ j. input_gain net start m j * bounds j),
      rounding_not_negative net start m,
      widths_are,
      sum_not_negative net.rows (λ i. rest net start m i * rows i),
    )
