-- The ends of products of intervals, and what lies between them.
use Rattle.std.proofs.Common.{◌≡◌, ℕ, ◌-◌, ◌*◌, ◌^◌, ◌<◌, ◌≤◌, refl, sym, ◌∙◌, arith, ap, lit<, ℤ, pos}
use Rattle.std.proofs.Common.{◌*ℤ◌, ◌≤ℤ◌, unsigned_abs}
use Rattle.std.specs.Int.{int_min, int_max}
use Rattle.std.proofs.lemmas.Int.{ints}
use Rattle.fx_math.specs.Ratio.{product_of, Ratio}
use Rattle.fx_math.proofs.Ring.{mul_assoc}
use Rattle.fx_math.proofs.Division.{floor_below, ceil_above, mul_le_nat}
use Rattle.fx_math.proofs.Rounding.{floor_parts, ceil_parts}
use Rattle.fx_math.proofs.Lines.{le_trans, swapped, split_factor, line_low, line_high, corners_low}
use Rattle.fx_math.proofs.Lines.{corners_high, rounded_low, rounded_high, min_left, min_right, max_left}
use Rattle.fx_math.proofs.Lines.{max_right, min_within, max_within, mul_le_back}
use Rattle.fx_nums.specs.Arithmetic.{IsScaled, IsProduct, least_of, greatest_of, times}
use Rattle.fx_nums.specs.Enclosing.{Encloses}
use Rattle.fx_nums.specs.Interval.{Interval}
use Rattle.fx_nums.specs.Products.{product_down, product_up, widened_low, widened_high, IsRoundedProduct}

-- ---- with a fraction

pub scaled_from : (lo hi num : ℤ) (d : ℕ) (f₁ c₁ f₂ c₂ low high : ℤ) → IsRoundedProduct lo num d f₁ c₁ →
    IsRoundedProduct hi num d f₂ c₂ → low ≡ int_min f₁ f₂ → high ≡ int_max c₁ c₂ → IsScaled lo hi num d low high
scaled_from lo hi num d f₁ c₁ f₂ c₂ low high r s e f =
    let below_first : low ≤ℤ f₁ = rw e (min_left f₁ f₂) in
    let below_second : low ≤ℤ f₂ = rw e (min_right f₁ f₂) in
    let above_first : c₁ ≤ℤ high = rw f (max_left c₁ c₂) in
    let above_second : c₂ ≤ℤ high = rw f (max_right c₁ c₂) in
    record {
      low_is = e ∙ ap (λ x. int_min x f₂) r.low_is ∙ ap (λ x. int_min (product_down lo num d) x) s.low_is;
      high_is = f ∙ ap (λ x. int_max x c₂) r.high_is ∙ ap (λ x. int_max (product_up lo num d) x) s.high_is;
      ordered = omega (arith, ints, r.ordered);
      low_in = rw e (min_within f₁ f₂ (2 ^ 119) r.low_in s.low_in);
      high_in = rw f (max_within c₁ c₂ (2 ^ 119) r.high_in s.high_in);
      scales = λ b k l. (
        rw e (min_within f₁ f₂ (b * 2 ^ 56) (r.low_scales b k) (s.low_scales b l)),
        rw f (max_within c₁ c₂ (b * 2 ^ 56) (r.high_scales b k) (s.high_scales b l)),
      );
      encloses = λ a b k l. (
        line_low (lo *ℤ pos b) a (hi *ℤ pos b) num (low *ℤ pos (b * d)) k l
            (rounded_low low f₁ lo num b d below_first r.below)
            (rounded_low low f₂ hi num b d below_second s.below),
        line_high (lo *ℤ pos b) a (hi *ℤ pos b) num (high *ℤ pos (b * d)) k l
            (rounded_high high c₁ lo num b d above_first r.above)
            (rounded_high high c₂ hi num b d above_second s.above),
      );
    }

-- as values
pub scaled_encloses : (i j : Interval) (num : ℤ) (d : ℕ) (x : Ratio) → IsScaled i.lo i.hi num d j.lo j.hi →
    Encloses i x → Encloses j (record { num = x.num *ℤ num; den = x.den * d })
scaled_encloses i j num d x s e =
    let ends = s.encloses (x.num *ℤ pos (2 ^ 64)) x.den e.low e.high in
    let same = swapped x.num (pos (2 ^ 64)) num in
    record { low = rw same at ends.0; high = rw same at ends.1 }

-- ---- the least and the greatest of four

least_first : (a b c d : ℤ) → least_of a b c d ≤ℤ a
least_first a b c d = le_trans (least_of a b c d) (int_min a b) a (min_left (int_min a b) (int_min c d)) (min_left a b)

least_second : (a b c d : ℤ) → least_of a b c d ≤ℤ b
least_second a b c d = le_trans (least_of a b c d) (int_min a b) b (min_left (int_min a b) (int_min c d))
    (min_right a b)

least_third : (a b c d : ℤ) → least_of a b c d ≤ℤ c
least_third a b c d = le_trans (least_of a b c d) (int_min c d) c (min_right (int_min a b) (int_min c d)) (min_left c d)

least_fourth : (a b c d : ℤ) → least_of a b c d ≤ℤ d
least_fourth a b c d = le_trans (least_of a b c d) (int_min c d) d (min_right (int_min a b) (int_min c d))
    (min_right c d)

greatest_first : (a b c d : ℤ) → a ≤ℤ greatest_of a b c d
greatest_first a b c d =
    le_trans a (int_max a b) (greatest_of a b c d) (max_left a b) (max_left (int_max a b) (int_max c d))

greatest_second : (a b c d : ℤ) → b ≤ℤ greatest_of a b c d
greatest_second a b c d =
    le_trans b (int_max a b) (greatest_of a b c d) (max_right a b) (max_left (int_max a b) (int_max c d))

greatest_third : (a b c d : ℤ) → c ≤ℤ greatest_of a b c d
greatest_third a b c d =
    le_trans c (int_max c d) (greatest_of a b c d) (max_left c d) (max_right (int_max a b) (int_max c d))

greatest_fourth : (a b c d : ℤ) → d ≤ℤ greatest_of a b c d
greatest_fourth a b c d =
    le_trans d (int_max c d) (greatest_of a b c d) (max_right c d) (max_right (int_max a b) (int_max c d))

-- a number at most each of the four
pub record IsLow (z a b c d : ℤ) : Type 0 where
  pub first : z ≤ℤ a
  pub second : z ≤ℤ b
  pub third : z ≤ℤ c
  pub fourth : z ≤ℤ d

pub record IsHigh (z a b c d : ℤ) : Type 0 where
  pub first : a ≤ℤ z
  pub second : b ≤ℤ z
  pub third : c ≤ℤ z
  pub fourth : d ≤ℤ z

pub least_low : (a b c d : ℤ) → IsLow (least_of a b c d) a b c d
least_low a b c d = record {
  first = least_first a b c d;
  second = least_second a b c d;
  third =
      least_third a b c d;
  fourth = least_fourth a b c d;
}

pub greatest_high : (a b c d : ℤ) → IsHigh (greatest_of a b c d) a b c d
greatest_high a b c d = record {
  first = greatest_first a b c d;
  second = greatest_second a b c d;
  third =
      greatest_third a b c d;
  fourth = greatest_fourth a b c d;
}

pub least_within : (a b c d : ℤ) (m : ℕ) → unsigned_abs a < m → unsigned_abs b < m → unsigned_abs c < m →
    unsigned_abs d < m → unsigned_abs (least_of a b c d) < m
least_within a b c d m h k l n =
    omega (
      arith,
      min_within (int_min a b) (int_min c d) (m - 1)
          (min_within a b (m - 1) (omega arith) (omega arith)) (min_within c d (m - 1) (omega arith) (omega arith)),
    )

pub greatest_within : (a b c d : ℤ) (m : ℕ) → unsigned_abs a < m → unsigned_abs b < m → unsigned_abs c < m →
    unsigned_abs d < m → unsigned_abs (greatest_of a b c d) < m
greatest_within a b c d m h k l n =
    omega (
      arith,
      max_within (int_max a b) (int_max c d) (m - 1)
          (max_within a b (m - 1) (omega arith) (omega arith)) (max_within c d (m - 1) (omega arith) (omega arith)),
    )

-- ---- with an interval

pub product_from : (a b c d p q r s low high : ℤ) → p ≡ a *ℤ c → q ≡ a *ℤ d → r ≡ b *ℤ c → s ≡ b *ℤ d →
    unsigned_abs p < 2 ^ 120 → unsigned_abs q < 2 ^ 120 → unsigned_abs r < 2 ^ 120 → unsigned_abs s < 2 ^ 120 →
    low ≡ least_of p q r s → high ≡ greatest_of p q r s → IsProduct a b c d low high
product_from a b c d p q r s low high e f g h k l m n x y = record {
  low_is = x ∙ rw (e, f, g, h) refl;
  high_is = y ∙ rw (e, f, g, h) refl;
  ordered = rw (x, y) (le_trans (least_of p q r s) p (greatest_of p q r s) (least_first p q r s)
      (greatest_first p q r s));
  low_in = rw x (least_within p q r s (2 ^ 120) k l m n);
  high_in = rw y (greatest_within p q r s (2 ^ 120) k l m n);
}

pub widened_ordered : (lo hi : ℤ) → lo ≤ℤ hi → widened_low lo ≤ℤ widened_high hi
widened_ordered lo hi h = omega (arith, ints, floor_parts lo (2 ^ 32) (lit< tt), ceil_parts hi (2 ^ 32) (lit< tt))

-- a number between the ends is between the widened ends, at the scale of these
pub widened_below : (lo x : ℤ) (m : ℕ) → (lo *ℤ pos m) ≤ℤ (x *ℤ pos (2 ^ 64)) →
    (widened_low lo *ℤ pos m) ≤ℤ (x *ℤ pos (2 ^ 32))
widened_below lo x m h =
    let first : (widened_low lo *ℤ pos (2 ^ 32) *ℤ pos m) ≤ℤ (lo *ℤ pos m) =
    mul_le_nat (widened_low lo *ℤ pos (2 ^ 32)) lo m (floor_below lo (2 ^ 32) (lit< tt)) in
    let scaled : (widened_low lo *ℤ pos m *ℤ pos (2 ^ 32)) ≤ℤ (x *ℤ pos (2 ^ 32) *ℤ pos (2 ^ 32)) =
    rw (← split_factor x (2 ^ 32) (2 ^ 32), swapped (widened_low lo) (pos m) (pos (2 ^ 32)))
    (le_trans (widened_low lo *ℤ pos (2 ^ 32) *ℤ pos m) (lo *ℤ pos m) (x *ℤ pos (2 ^ 64)) first h) in
    mul_le_back (widened_low lo *ℤ pos m) (x *ℤ pos (2 ^ 32)) (2 ^ 32) (lit< tt) scaled

pub widened_above : (hi x : ℤ) (m : ℕ) → (x *ℤ pos (2 ^ 64)) ≤ℤ (hi *ℤ pos m) →
    (x *ℤ pos (2 ^ 32)) ≤ℤ (widened_high hi *ℤ pos m)
widened_above hi x m h =
    let first : (hi *ℤ pos m) ≤ℤ (widened_high hi *ℤ pos (2 ^ 32) *ℤ pos m) =
    mul_le_nat hi (widened_high hi *ℤ pos (2 ^ 32)) m (ceil_above hi (2 ^ 32) (lit< tt)) in
    let scaled : (x *ℤ pos (2 ^ 32) *ℤ pos (2 ^ 32)) ≤ℤ (widened_high hi *ℤ pos m *ℤ pos (2 ^ 32)) =
    rw (← split_factor x (2 ^ 32) (2 ^ 32), swapped (widened_high hi) (pos m) (pos (2 ^ 32)))
    (le_trans (x *ℤ pos (2 ^ 64)) (hi *ℤ pos m) (widened_high hi *ℤ pos (2 ^ 32) *ℤ pos m) h first) in
    mul_le_back (x *ℤ pos (2 ^ 32)) (widened_high hi *ℤ pos m) (2 ^ 32) (lit< tt) scaled

corner_is : (a c : ℤ) (m n : ℕ) → a *ℤ c *ℤ pos (m * n) ≡ a *ℤ pos m *ℤ (c *ℤ pos n)
corner_is a c m n =
    split_factor (a *ℤ c) m n ∙ ap (λ z. z *ℤ pos m) (mul_assoc a c (pos n)) ∙ swapped a (c *ℤ pos n) (pos m)

corner_low : (t a c : ℤ) (m n : ℕ) → t ≤ℤ (a *ℤ c) → (t *ℤ pos (m * n)) ≤ℤ (a *ℤ pos m *ℤ (c *ℤ pos n))
corner_low t a c m n h = rw (← corner_is a c m n) (mul_le_nat t (a *ℤ c) (m * n) h)

corner_high : (t a c : ℤ) (m n : ℕ) → (a *ℤ c) ≤ℤ t → (a *ℤ pos m *ℤ (c *ℤ pos n)) ≤ℤ (t *ℤ pos (m * n))
corner_high t a c m n h = rw (← corner_is a c m n) (mul_le_nat (a *ℤ c) t (m * n) h)

both_scaled : (x y : ℤ) → x *ℤ pos (2 ^ 32) *ℤ (y *ℤ pos (2 ^ 32)) ≡ x *ℤ y *ℤ pos (2 ^ 64)
both_scaled x y = sym (corner_is x y (2 ^ 32) (2 ^ 32))

pub times_encloses : (i j v : Interval) (x y : Ratio) → v ≡ times i j → Encloses i x → Encloses j y →
    Encloses v (product_of x y)
times_encloses i j v x y e h k =
    let a = widened_low i.lo in
    let b = widened_high i.hi in
    let c = widened_low j.lo in
    let d = widened_high j.hi in
    let m = x.den in
    let n = y.den in
    let least = least_low (a *ℤ c) (a *ℤ d) (b *ℤ c) (b *ℤ d) in
    let greatest = greatest_high (a *ℤ c) (a *ℤ d) (b *ℤ c) (b *ℤ d) in
    let low : ((times i j).lo *ℤ pos (m * n)) ≤ℤ (x.num *ℤ pos (2 ^ 32) *ℤ (y.num *ℤ pos (2 ^ 32))) =
    corners_low (a *ℤ pos m) (x.num *ℤ pos (2 ^ 32)) (b *ℤ pos m) (c *ℤ pos n) (y.num *ℤ pos (2 ^ 32))
    (d *ℤ pos n) ((times i j).lo *ℤ pos (m * n))
    (widened_below i.lo x.num m h.low) (widened_above i.hi x.num m h.high) (widened_below j.lo y.num n k.low)
    (widened_above j.hi y.num n k.high)
    (corner_low (times i j).lo a c m n least.first) (corner_low (times i j).lo a d m n least.second)
    (corner_low (times i j).lo b c m n least.third) (corner_low (times i j).lo b d m n least.fourth) in
    let high : (x.num *ℤ pos (2 ^ 32) *ℤ (y.num *ℤ pos (2 ^ 32))) ≤ℤ ((times i j).hi *ℤ pos (m * n)) =
    corners_high (a *ℤ pos m) (x.num *ℤ pos (2 ^ 32)) (b *ℤ pos m) (c *ℤ pos n) (y.num *ℤ pos (2 ^ 32))
    (d *ℤ pos n) ((times i j).hi *ℤ pos (m * n))
    (widened_below i.lo x.num m h.low) (widened_above i.hi x.num m h.high) (widened_below j.lo y.num n k.low)
    (widened_above j.hi y.num n k.high)
    (corner_high (times i j).hi a c m n greatest.first) (corner_high (times i j).hi a d m n greatest.second)
    (corner_high (times i j).hi b c m n greatest.third) (corner_high (times i j).hi b d m n greatest.fourth) in
    rw e (record { low = rw (both_scaled x.num y.num) at low; high = rw (both_scaled x.num y.num) at high })
