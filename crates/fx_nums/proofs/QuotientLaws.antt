-- Quotients of intervals, and what lies between their ends.
use Rattle.std.proofs.Common.{◌≡◌, ◌⊎◌, inl, inr, ℕ, zero, suc, ◌*◌, ◌^◌, ◌<◌, ◌≤◌, Bool, true, false, ◌&&◌}
use Rattle.std.proofs.Common.{refl, ◌∙◌, arith, ap, lit<, ℤ, pos, negsuc, neg_ℤ, ◌*ℤ◌, ◌≤ℤ◌, ◌<ℤ◌}
use Rattle.std.proofs.Common.{unsigned_abs, int_le}
use Rattle.std.proofs.lemmas.Int.{ints}
use Rattle.fx_math.specs.Division.{floor_div}
use Rattle.fx_math.specs.Ratio.{product_of, Ratio}
use Rattle.fx_math.proofs.Ring.{mul_comm, mul-neg, neg-mul}
use Rattle.fx_math.proofs.Division.{floor_below, ceil_above, floor_le-ceil, mul_le_nat}
use Rattle.fx_math.proofs.Lines.{le_trans, swapped, split_factor, line_low, line_high, mul_le_back}
use Rattle.fx_nums.specs.Arithmetic.{IsQuotient, least_of, greatest_of, quotient_down, quotient_up, divided}
use Rattle.fx_nums.specs.Arithmetic.{widened, has_zero}
use Rattle.fx_nums.specs.Enclosing.{Encloses}
use Rattle.fx_nums.specs.Interval.{Interval}
use Rattle.fx_nums.specs.Products.{widened_low, widened_high}
use Rattle.fx_nums.proofs.EndLaws.{IsLow, IsHigh, least_low, greatest_high, least_within, greatest_within}
use Rattle.fx_nums.proofs.EndLaws.{widened_below, widened_above}

-- the ceiling as the floor of the number with the other sign
pub up_of_negative : (x y : ℤ) → y ≤ℤ pos 0 → ¬ (y ≡ pos 0) →
    quotient_up x y ≡ neg_ℤ (floor_div (neg_ℤ (neg_ℤ x *ℤ pos (2 ^ 32))) (unsigned_abs y))
up_of_negative x (pos n) h k = absurd (k (ap pos (omega (arith, ints))))
up_of_negative x (negsuc n) h k = refl

down_le_up : (x y : ℤ) → ¬ (y ≡ pos 0) → quotient_down x y ≤ℤ quotient_up x y
down_le_up x (pos zero) h = absurd (h refl)
down_le_up x (pos (suc n)) h = floor_le-ceil (x *ℤ pos (2 ^ 32)) (suc n) (omega arith)
down_le_up x (negsuc n) h = floor_le-ceil (neg_ℤ x *ℤ pos (2 ^ 32)) (suc n) (omega arith)

pub quotient_from : (a b c d p q r s t u v w low high : ℤ) → ¬ (c ≡ pos 0) → p ≡ quotient_down a c →
    q ≡ quotient_down a d → r ≡ quotient_down b c → s ≡ quotient_down b d → t ≡ quotient_up a c →
    u ≡ quotient_up a d → v ≡ quotient_up b c → w ≡ quotient_up b d →
    (unsigned_abs p < 2 ^ 120) × (unsigned_abs q < 2 ^ 120) × (unsigned_abs r < 2 ^ 120)
    × (unsigned_abs s < 2 ^ 120) → (unsigned_abs t < 2 ^ 120) × (unsigned_abs u < 2 ^ 120)
    × (unsigned_abs v < 2 ^ 120) × (unsigned_abs w < 2 ^ 120) → low ≡ least_of p q r s →
    high ≡ greatest_of t u v w → IsQuotient a b c d low high
quotient_from a b c d p q r s t u v w low high apart e f g h k l m n lows highs x y = record {
  low_is = x ∙ rw (e, f, g, h) refl;
  high_is = y ∙ rw (k, l, m, n) refl;
  ordered =
      let first : p ≤ℤ t = rw (e, k) (down_le_up a c apart) in
      rw (x, y) (le_trans (least_of p q r s) p (greatest_of t u v w) (least_low p q r s).first
      (le_trans p t (greatest_of t u v w) first (greatest_high t u v w).first));
  low_in = rw x (least_within p q r s (2 ^ 120) lows.0 lows.1 lows.2 lows.3);
  high_in = rw y (greatest_within t u v w (2 ^ 120) highs.0 highs.1 highs.2 highs.3);
}

-- ---- a divisor above 0

-- z is at most both quotients of x by the ends of the divisor
core_low : (z x c d y n : ℤ) (m k : ℕ) → pos 0 <ℤ y → (z *ℤ c) ≤ℤ (x *ℤ pos (2 ^ 32)) →
    (z *ℤ d) ≤ℤ (x *ℤ pos (2 ^ 32)) → (c *ℤ pos k) ≤ℤ (y *ℤ pos (2 ^ 32)) →
    (y *ℤ pos (2 ^ 32)) ≤ℤ (d *ℤ pos k) → (x *ℤ pos (m * k)) ≤ℤ (n *ℤ y *ℤ pos (2 ^ 64)) →
    (z *ℤ pos m) ≤ℤ (n *ℤ pos (2 ^ 64))
core_low z x c d (pos zero) n m k some e f low high h = absurd (omega (arith, ints))
core_low z x c d (negsuc j) n m k some e f low high h = absurd (omega (arith, ints))
core_low z x c d (pos (suc j)) n m k some e f low high h =
    let y : ℤ = pos (suc j) in
    let t : ℤ = x *ℤ pos (2 ^ 32) *ℤ pos k in
    let at_low : (c *ℤ pos k *ℤ z) ≤ℤ t =
    rw (swapped c (pos k) z, mul_comm c z) (mul_le_nat (z *ℤ c) (x *ℤ pos (2 ^ 32)) k e) in
    let at_high : (d *ℤ pos k *ℤ z) ≤ℤ t =
    rw (swapped d (pos k) z, mul_comm d z) (mul_le_nat (z *ℤ d) (x *ℤ pos (2 ^ 32)) k f) in
    let between : (y *ℤ pos (2 ^ 32) *ℤ z) ≤ℤ t =
    line_high (c *ℤ pos k) (y *ℤ pos (2 ^ 32)) (d *ℤ pos k) z t low high at_low at_high in
    let scaled : (y *ℤ z *ℤ pos (2 ^ 32)) ≤ℤ (x *ℤ pos k *ℤ pos (2 ^ 32)) =
    rw (swapped y z (pos (2 ^ 32)), swapped x (pos k) (pos (2 ^ 32))) between in
    let plain : (y *ℤ z) ≤ℤ (x *ℤ pos k) = mul_le_back (y *ℤ z) (x *ℤ pos k) (2 ^ 32) (lit< tt) scaled in
    let more : (y *ℤ z *ℤ pos m) ≤ℤ (n *ℤ y *ℤ pos (2 ^ 64)) =
    le_trans (y *ℤ z *ℤ pos m) (x *ℤ pos (m * k)) (n *ℤ y *ℤ pos (2 ^ 64))
    (rw (split_factor x m k) (mul_le_nat (y *ℤ z) (x *ℤ pos k) m plain)) h in
    let turned : (z *ℤ pos m *ℤ y) ≤ℤ (n *ℤ pos (2 ^ 64) *ℤ y) =
    rw (swapped z (pos m) y, mul_comm z y, swapped n (pos (2 ^ 64)) y) more in
    mul_le_back (z *ℤ pos m) (n *ℤ pos (2 ^ 64)) (suc j) (omega arith) turned

core_high : (z x c d y n : ℤ) (m k : ℕ) → pos 0 <ℤ y → (x *ℤ pos (2 ^ 32)) ≤ℤ (z *ℤ c) →
    (x *ℤ pos (2 ^ 32)) ≤ℤ (z *ℤ d) → (c *ℤ pos k) ≤ℤ (y *ℤ pos (2 ^ 32)) →
    (y *ℤ pos (2 ^ 32)) ≤ℤ (d *ℤ pos k) → (n *ℤ y *ℤ pos (2 ^ 64)) ≤ℤ (x *ℤ pos (m * k)) →
    (n *ℤ pos (2 ^ 64)) ≤ℤ (z *ℤ pos m)
core_high z x c d (pos zero) n m k some e f low high h = absurd (omega (arith, ints))
core_high z x c d (negsuc j) n m k some e f low high h = absurd (omega (arith, ints))
core_high z x c d (pos (suc j)) n m k some e f low high h =
    let y : ℤ = pos (suc j) in
    let t : ℤ = x *ℤ pos (2 ^ 32) *ℤ pos k in
    let at_low : t ≤ℤ (c *ℤ pos k *ℤ z) =
    rw (swapped c (pos k) z, mul_comm c z) (mul_le_nat (x *ℤ pos (2 ^ 32)) (z *ℤ c) k e) in
    let at_high : t ≤ℤ (d *ℤ pos k *ℤ z) =
    rw (swapped d (pos k) z, mul_comm d z) (mul_le_nat (x *ℤ pos (2 ^ 32)) (z *ℤ d) k f) in
    let between : t ≤ℤ (y *ℤ pos (2 ^ 32) *ℤ z) =
    line_low (c *ℤ pos k) (y *ℤ pos (2 ^ 32)) (d *ℤ pos k) z t low high at_low at_high in
    let scaled : (x *ℤ pos k *ℤ pos (2 ^ 32)) ≤ℤ (y *ℤ z *ℤ pos (2 ^ 32)) =
    rw (swapped y z (pos (2 ^ 32)), swapped x (pos k) (pos (2 ^ 32))) between in
    let plain : (x *ℤ pos k) ≤ℤ (y *ℤ z) = mul_le_back (x *ℤ pos k) (y *ℤ z) (2 ^ 32) (lit< tt) scaled in
    let more : (n *ℤ y *ℤ pos (2 ^ 64)) ≤ℤ (y *ℤ z *ℤ pos m) =
    le_trans (n *ℤ y *ℤ pos (2 ^ 64)) (x *ℤ pos (m * k)) (y *ℤ z *ℤ pos m) h
    (rw (split_factor x m k) (mul_le_nat (x *ℤ pos k) (y *ℤ z) m plain)) in
    let turned : (n *ℤ pos (2 ^ 64) *ℤ y) ≤ℤ (z *ℤ pos m *ℤ y) =
    rw (swapped z (pos m) y, mul_comm z y, swapped n (pos (2 ^ 64)) y) more in
    mul_le_back (n *ℤ pos (2 ^ 64)) (z *ℤ pos m) (suc j) (omega arith) turned

-- a number at most a quotient, times the divisor
below_positive : (z x y : ℤ) → pos 0 <ℤ y → z ≤ℤ quotient_down x y → (z *ℤ y) ≤ℤ (x *ℤ pos (2 ^ 32))
below_positive z x (pos n) some h =
    le_trans (z *ℤ pos n) (quotient_down x (pos n) *ℤ pos n) (x *ℤ pos (2 ^ 32))
    (mul_le_nat z (quotient_down x (pos n)) n h) (floor_below (x *ℤ pos (2 ^ 32)) n (omega (arith, ints)))
below_positive z x (negsuc n) some h = absurd (omega (arith, ints))

above_positive : (z x y : ℤ) → pos 0 <ℤ y → quotient_up x y ≤ℤ z → (x *ℤ pos (2 ^ 32)) ≤ℤ (z *ℤ y)
above_positive z x (pos n) some h =
    le_trans (x *ℤ pos (2 ^ 32)) (quotient_up x (pos n) *ℤ pos n) (z *ℤ pos n)
    (ceil_above (x *ℤ pos (2 ^ 32)) n (omega (arith, ints))) (mul_le_nat (quotient_up x (pos n)) z n h)
above_positive z x (negsuc n) some h = absurd (omega (arith, ints))

below_negative : (z x y : ℤ) → y <ℤ pos 0 → z ≤ℤ quotient_down x y → (z *ℤ neg_ℤ y) ≤ℤ (neg_ℤ x *ℤ pos (2 ^ 32))
below_negative z x (pos n) some h = absurd (omega (arith, ints))
below_negative z x (negsuc n) some h =
    le_trans (z *ℤ pos (suc n)) (quotient_down x (negsuc n) *ℤ pos (suc n)) (neg_ℤ x *ℤ pos (2 ^ 32))
    (mul_le_nat z (quotient_down x (negsuc n)) (suc n) h)
    (floor_below (neg_ℤ x *ℤ pos (2 ^ 32)) (suc n) (omega arith))

above_negative : (z x y : ℤ) → y <ℤ pos 0 → quotient_up x y ≤ℤ z → (neg_ℤ x *ℤ pos (2 ^ 32)) ≤ℤ (z *ℤ neg_ℤ y)
above_negative z x (pos n) some h = absurd (omega (arith, ints))
above_negative z x (negsuc n) some h =
    le_trans (neg_ℤ x *ℤ pos (2 ^ 32)) (quotient_up x (negsuc n) *ℤ pos (suc n)) (z *ℤ pos (suc n))
    (ceil_above (neg_ℤ x *ℤ pos (2 ^ 32)) (suc n) (omega arith))
    (mul_le_nat (quotient_up x (negsuc n)) z (suc n) h)

-- ---- what lies between the ends

-- a divisor from c to d has y / k; the dividend, from a to b, has n / m times that
pub record HasQuotient (a b c d n y : ℤ) (m k : ℕ) : Type 0 where
  pub some : 0 < k
  pub divisor_low : (c *ℤ pos k) ≤ℤ (y *ℤ pos (2 ^ 32))
  pub divisor_high : (y *ℤ pos (2 ^ 32)) ≤ℤ (d *ℤ pos k)
  pub low : (a *ℤ pos (m * k)) ≤ℤ (n *ℤ y *ℤ pos (2 ^ 64))
  pub high : (n *ℤ y *ℤ pos (2 ^ 64)) ≤ℤ (b *ℤ pos (m * k))

pub record IsBetween (low high n : ℤ) (m : ℕ) : Type 0 where
  pub below : (low *ℤ pos m) ≤ℤ (n *ℤ pos (2 ^ 64))
  pub above : (n *ℤ pos (2 ^ 64)) ≤ℤ (high *ℤ pos m)

above_zero : (c y : ℤ) (k : ℕ) → pos 0 <ℤ c → 0 < k → (c *ℤ pos k) ≤ℤ (y *ℤ pos (2 ^ 32)) → pos 0 <ℤ y
above_zero (pos zero) y k h l e = absurd (omega (arith, ints))
above_zero (negsuc n) y k h l e = absurd (omega (arith, ints))
above_zero (pos (suc n)) (pos (suc z)) k h l e = omega (arith, ints)
above_zero (pos (suc n)) (pos zero) (suc k) h l e = absurd (omega (arith, ints))
above_zero (pos (suc n)) (pos zero) zero h l e = absurd (omega arith)
above_zero (pos (suc n)) (negsuc z) k h l e = absurd (omega (arith, ints))

positive_between : (a b c d n y low high : ℤ) (m k : ℕ) → pos 0 <ℤ c → c ≤ℤ d → HasQuotient a b c d n y m k
    → IsLow low (quotient_down a c) (quotient_down a d) (quotient_down b c) (quotient_down b d) →
    IsHigh high (quotient_up a c) (quotient_up a d) (quotient_up b c) (quotient_up b d) →
    IsBetween low high n m
positive_between a b c d n y low high m k over order q lows highs =
    let y_over = above_zero c y k over q.some q.divisor_low in
    let d_over : pos 0 <ℤ d = omega (arith, ints) in
    record {
      below = core_low low a c d y n m k y_over (below_positive low a c over lows.first)
          (below_positive low a d d_over lows.second) q.divisor_low q.divisor_high q.low;
      above = core_high high b c d y n m k y_over (above_positive high b c over highs.third)
          (above_positive high b d d_over highs.fourth) q.divisor_low q.divisor_high q.high;
    }

-- the same with the signs of the divisor and the dividend exchanged
turn_low : (x n y : ℤ) (j : ℕ) → (n *ℤ y *ℤ pos (2 ^ 64)) ≤ℤ (x *ℤ pos j) →
    (neg_ℤ x *ℤ pos j) ≤ℤ (n *ℤ neg_ℤ y *ℤ pos (2 ^ 64))
turn_low x n y j h = rw (neg-mul x (pos j), mul-neg n y, neg-mul (n *ℤ y) (pos (2 ^ 64))) (omega (arith, ints, h))

turn_high : (x n y : ℤ) (j : ℕ) → (x *ℤ pos j) ≤ℤ (n *ℤ y *ℤ pos (2 ^ 64)) →
    (n *ℤ neg_ℤ y *ℤ pos (2 ^ 64)) ≤ℤ (neg_ℤ x *ℤ pos j)
turn_high x n y j h = rw (neg-mul x (pos j), mul-neg n y, neg-mul (n *ℤ y) (pos (2 ^ 64))) (omega (arith, ints, h))

turn_divisor : (u v : ℤ) (i j : ℕ) → (u *ℤ pos i) ≤ℤ (v *ℤ pos j) → (neg_ℤ v *ℤ pos j) ≤ℤ (neg_ℤ u *ℤ pos i)
turn_divisor u v i j h = rw (neg-mul u (pos i), neg-mul v (pos j)) (omega (arith, ints, h))

negative_between : (a b c d n y low high : ℤ) (m k : ℕ) → d <ℤ pos 0 → c ≤ℤ d → HasQuotient a b c d n y m k
    → IsLow low (quotient_down a c) (quotient_down a d) (quotient_down b c) (quotient_down b d) →
    IsHigh high (quotient_up a c) (quotient_up a d) (quotient_up b c) (quotient_up b d) →
    IsBetween low high n m
negative_between a b c d n y low high m k under order q lows highs =
    let c_under : c <ℤ pos 0 = omega (arith, ints) in
    let least : (neg_ℤ d *ℤ pos k) ≤ℤ (neg_ℤ y *ℤ pos (2 ^ 32)) = turn_divisor y d (2 ^ 32) k q.divisor_high in
    let greatest : (neg_ℤ y *ℤ pos (2 ^ 32)) ≤ℤ (neg_ℤ c *ℤ pos k) = turn_divisor c y k (2 ^ 32) q.divisor_low in
    let y_over = above_zero (neg_ℤ d) (neg_ℤ y) k (omega (arith, ints)) q.some least in
    record {
      below = core_low low (neg_ℤ b) (neg_ℤ d) (neg_ℤ c) (neg_ℤ y) n m k y_over
          (below_negative low b d under lows.fourth) (below_negative low b c c_under lows.third) least greatest
          (turn_low b n y (m * k) q.high);
      above = core_high high (neg_ℤ a) (neg_ℤ d) (neg_ℤ c) (neg_ℤ y) n m k y_over
          (above_negative high a d under highs.second) (above_negative high a c c_under highs.first) least
          greatest (turn_high a n y (m * k) q.low);
    }

apart_sides : (c d : ℤ) → (int_le c (pos 0) && int_le (pos 0) d) ≡ false → (pos 0 <ℤ c) ⊎ (d <ℤ pos 0)
apart_sides c d h = by (int_le c (pos 0)) (int_le (pos 0) d) refl refl h
  where
    by : (s t : Bool) → int_le c (pos 0) ≡ s → int_le (pos 0) d ≡ t → (s && t) ≡ false → (pos 0 <ℤ c) ⊎ (d <ℤ pos 0)
    by true true e f h = cc
    by true false e f h = inr (omega (arith, ints))
    by false t e f h = inl (omega (arith, ints))

pub divided_encloses : (i j v : Interval) (q y : Ratio) → has_zero (widened j) ≡ false →
    widened_low j.lo ≤ℤ widened_high j.hi → v ≡ divided i j → 0 < y.den → Encloses j y →
    Encloses i (product_of q y) → Encloses v q
divided_encloses i j v q y apart order e some h k =
    let c = widened_low j.lo in
    let d = widened_high j.hi in
    let has : HasQuotient i.lo i.hi c d q.num y.num q.den y.den = record {
      some = some;
      divisor_low = widened_below j.lo y.num y.den h.low;
      divisor_high = widened_above j.hi y.num y.den h.high;
      low = k.low;
      high = k.high;
    } in
    let lows = least_low (quotient_down i.lo c) (quotient_down i.lo d) (quotient_down i.hi c) (quotient_down i.hi d) in
    let highs = greatest_high (quotient_up i.lo c) (quotient_up i.lo d) (quotient_up i.hi c) (quotient_up i.hi d) in
    let between : IsBetween (divided i j).lo (divided i j).hi q.num q.den = elim (apart_sides c d apart) [
      | inl over ↦ positive_between i.lo i.hi c d q.num y.num (divided i j).lo (divided i j).hi q.den y.den
          over order has lows highs
      | inr under ↦ negative_between i.lo i.hi c d q.num y.num (divided i j).lo (divided i j).hi q.den y.den
          under order has lows highs
    ] in
    rw e (record { low = between.below; high = between.above })
