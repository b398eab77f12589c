-- What holds of products that are rounded down and up.
use Rattle.std.proofs.Common.{◌≡◌, ℕ, suc, ◌+◌, ◌*◌, ◌^◌, ◌<◌, ◌≤◌, refl, arith, ℤ, pos, negsuc, ◌*ℤ◌}
use Rattle.std.proofs.Common.{◌+ℤ◌, ◌≤ℤ◌, ◌<ℤ◌, unsigned_abs, le_of_lt, cond, true, false}
use Rattle.std.proofs.Math.Nat.{mul-le-mul_left, mul-le-mul_right, le_of_mul-le-mul_right}
use Rattle.std.proofs.lemmas.Int.{ints, unsigned_abs-mul, int_min_is, int_max_is}
use Rattle.std.specs.Int.{int_min, int_max}
use lib.Signed.{lt_z}
use borrow.Author.Differences.{up, down}
use Rattle.fx_math.specs.Division.{floor_div, ceil_div}
use Rattle.fx_math.proofs.Division.{floor_below, ceil_above, floor_bound}
use Rattle.fx_math.proofs.Rounding.{floor_parts, ceil_parts, ceil_bound, ceil_near_floor}
use Rattle.fx_math.proofs.Lines.{swapped, min_within, max_within}
use Rattle.fx_nums.specs.Products.{is_exact, lesser_product, greater_product, product_down, product_up}
use Rattle.fx_nums.specs.Products.{IsOperands, IsRoundedProduct}

floor_within : (a : ℤ) (d b : ℕ) → 0 < d → unsigned_abs a < b * d → unsigned_abs (floor_div a d) ≤ b
floor_within a d b h k = floor_bound a d b h (le_of_lt k)

ceil_within : (a : ℤ) (d b : ℕ) → 0 < d → unsigned_abs a < b * d → unsigned_abs (ceil_div a d) ≤ b
ceil_within a d b h k = ceil_bound a d b h (le_of_lt k)

-- ---- the number that is narrowed

pub scaled_min : (p num : ℤ) → (lesser_product p num *ℤ pos (2 ^ 32)) ≤ℤ (p *ℤ num)
scaled_min p (pos n) =
    omega (arith, ints, int_min_is, mul-le-mul_right n (floor_parts p (2 ^ 32) (omega arith)).0)
scaled_min p (negsuc n) =
    omega (arith, ints, int_min_is, mul-le-mul_right (suc n) (ceil_parts p (2 ^ 32) (omega arith)).0)

pub scaled_max : (p num : ℤ) → (p *ℤ num) ≤ℤ (greater_product p num *ℤ pos (2 ^ 32))
scaled_max p (pos n) =
    omega (arith, ints, int_max_is, mul-le-mul_right n (ceil_parts p (2 ^ 32) (omega arith)).0)
scaled_max p (negsuc n) =
    omega (arith, ints, int_max_is, mul-le-mul_right (suc n) (floor_parts p (2 ^ 32) (omega arith)).0)

-- ---- how far apart the two roundings are

-- the two narrowed products differ by at most the fraction's numerator
pub spread : (p num : ℤ) → greater_product p num ≤ℤ (lesser_product p num +ℤ pos (unsigned_abs num))
spread p (pos n) =
    let apart : up (ceil_div p (2 ^ 32)) + down (floor_div p (2 ^ 32)) ≤ up (floor_div p (2 ^ 32))
    + down (ceil_div p (2 ^ 32)) + 1 =
    omega (arith, floor_parts p (2 ^ 32), ceil_parts p (2 ^ 32)) in
    let order : up (floor_div p (2 ^ 32)) + down (ceil_div p (2 ^ 32)) ≤ up (ceil_div p (2 ^ 32))
    + down (floor_div p (2 ^ 32)) =
    omega (arith, floor_parts p (2 ^ 32), ceil_parts p (2 ^ 32)) in
    omega (arith, ints, int_min_is, int_max_is, mul-le-mul_right n apart, mul-le-mul_right n order)
spread p (negsuc n) =
    let apart : up (ceil_div p (2 ^ 32)) + down (floor_div p (2 ^ 32)) ≤ up (floor_div p (2 ^ 32))
    + down (ceil_div p (2 ^ 32)) + 1 =
    omega (arith, floor_parts p (2 ^ 32), ceil_parts p (2 ^ 32)) in
    let order : up (floor_div p (2 ^ 32)) + down (ceil_div p (2 ^ 32)) ≤ up (ceil_div p (2 ^ 32))
    + down (floor_div p (2 ^ 32)) =
    omega (arith, floor_parts p (2 ^ 32), ceil_parts p (2 ^ 32)) in
    omega (arith, ints, int_min_is, int_max_is, mul-le-mul_right (suc n) apart, mul-le-mul_right (suc n) order)

-- a narrowed product is as small as the number and the numerator
pub narrowed_within : (q num : ℤ) (d : ℕ) → unsigned_abs q ≤ 2 ^ 63 → unsigned_abs num < 2 ^ 24 * d →
    unsigned_abs (q *ℤ num) < 2 ^ 87 * d
narrowed_within q num d h k = omega (arith, unsigned_abs-mul q num, mul-le-mul_right (unsigned_abs num) h)

pub product_within : (p num : ℤ) (d : ℕ) → unsigned_abs p < 2 ^ 95 → unsigned_abs num < 2 ^ 24 * d →
    unsigned_abs (p *ℤ num) < 2 ^ 119 * d
product_within p num d h k = omega (arith, unsigned_abs-mul p num, mul-le-mul_right (unsigned_abs num) (le_of_lt h))

pub min_below : (x y : ℤ) (b : ℕ) → unsigned_abs x < b → unsigned_abs y < b → unsigned_abs (int_min x y) < b
min_below x y b h k = elim (lt_z y x) as (λ t. unsigned_abs (cond t y x) < b) [ true ↦ k | false ↦ h ]

pub max_below : (x y : ℤ) (b : ℕ) → unsigned_abs x < b → unsigned_abs y < b → unsigned_abs (int_max x y) < b
max_below x y b h k = elim (lt_z y x) as (λ t. unsigned_abs (cond t x y) < b) [ true ↦ h | false ↦ k ]

pub down_within : (p : ℤ) → unsigned_abs p < 2 ^ 95 → unsigned_abs (floor_div p (2 ^ 32)) ≤ 2 ^ 63
down_within p h = floor_within p (2 ^ 32) (2 ^ 63) (omega arith) (omega arith)

pub up_within : (p : ℤ) → unsigned_abs p < 2 ^ 95 → unsigned_abs (ceil_div p (2 ^ 32)) ≤ 2 ^ 63
up_within p h = ceil_within p (2 ^ 32) (2 ^ 63) (omega arith) (omega arith)

-- ---- the two roundings of a product

pub lesser_within : (p num : ℤ) (d : ℕ) → IsOperands p num d → unsigned_abs (lesser_product p num) < 2 ^ 87 * d
lesser_within p num d o =
    let one = narrowed_within (floor_div p (2 ^ 32)) num d (down_within p o.p_in) o.fraction_in in
    let other = narrowed_within (ceil_div p (2 ^ 32)) num d (up_within p o.p_in) o.fraction_in in
    min_below (floor_div p (2 ^ 32) *ℤ num) (ceil_div p (2 ^ 32) *ℤ num) (2 ^ 87 * d) one other

pub greater_within : (p num : ℤ) (d : ℕ) → IsOperands p num d → unsigned_abs (greater_product p num) < 2 ^ 87 * d
greater_within p num d o =
    let one = narrowed_within (floor_div p (2 ^ 32)) num d (down_within p o.p_in) o.fraction_in in
    let other = narrowed_within (ceil_div p (2 ^ 32)) num d (up_within p o.p_in) o.fraction_in in
    max_below (floor_div p (2 ^ 32) *ℤ num) (ceil_div p (2 ^ 32) *ℤ num) (2 ^ 87 * d) one other

pub down_below : (p num : ℤ) (d : ℕ) → 0 < d → (product_down p num d *ℤ pos d) ≤ℤ (p *ℤ num)
unfolding product_down
down_below p num d h = elim (is_exact p num) as (λ t.
    ((cond t (floor_div (p *ℤ num) d) (floor_div (lesser_product p num) d *ℤ pos (2 ^ 32))) *ℤ pos d) ≤ℤ
    (p *ℤ num)) [
      | true ↦ floor_below (p *ℤ num) d h
      | false ↦ wide (lesser_product p num) (p *ℤ num) d h
          (scaled_min p num)
    ]
  where
    wide : (m a : ℤ) (d : ℕ) → 0 < d → (m *ℤ pos (2 ^ 32)) ≤ℤ a → (floor_div m d *ℤ pos (2 ^ 32) *ℤ pos d) ≤ℤ a
    wide m a d h k = rw (swapped (floor_div m d) (pos (2 ^ 32)) (pos d)) (omega (arith, ints, floor_below m d h))

pub up_above : (p num : ℤ) (d : ℕ) → 0 < d → (p *ℤ num) ≤ℤ (product_up p num d *ℤ pos d)
unfolding product_up
up_above p num d h = elim (is_exact p num) as (λ t.
    (p *ℤ num) ≤ℤ (cond t (ceil_div (p *ℤ num) d) (ceil_div (greater_product p num) d *ℤ pos (2 ^ 32)) *ℤ pos
    d)) [
      | true ↦ ceil_above (p *ℤ num) d h
      | false ↦ wide (greater_product p num) (p *ℤ num) d h
          (scaled_max p num)
    ]
  where
    wide : (m a : ℤ) (d : ℕ) → 0 < d → a ≤ℤ (m *ℤ pos (2 ^ 32)) → a ≤ℤ (ceil_div m d *ℤ pos (2 ^ 32) *ℤ pos d)
    wide m a d h k = rw (swapped (ceil_div m d) (pos (2 ^ 32)) (pos d)) (omega (arith, ints, ceil_above m d h))

pub product_near : (p num : ℤ) (d : ℕ) → 0 < d → unsigned_abs num < 2 ^ 24 * d →
    product_up p num d <ℤ (product_down p num d +ℤ pos (2 ^ 57))
unfolding product_up product_down
product_near p num d h k =
    elim (is_exact p num) as (λ t.
    (cond t (ceil_div (p *ℤ num) d) (ceil_div (greater_product p num) d *ℤ pos (2 ^ 32))) <ℤ
    (cond t (floor_div (p *ℤ num) d) (floor_div (lesser_product p num) d *ℤ pos (2 ^ 32)) +ℤ pos (2 ^ 57)))
    [ true ↦ exact (p *ℤ num) d h | false ↦ wide _ _ (unsigned_abs num) d h k (spread p num) ]
  where
    exact : (a : ℤ) (d : ℕ) → 0 < d → ceil_div a d <ℤ (floor_div a d +ℤ pos (2 ^ 57))
    exact a d h = omega (arith, ints, ceil_near_floor a a d 0 1 h (omega (arith, ints)) (omega arith))

    wide : (m low : ℤ) (n d : ℕ) → 0 < d → n < 2 ^ 24 * d → m ≤ℤ (low +ℤ pos n) →
        (ceil_div m d *ℤ pos (2 ^ 32)) <ℤ (floor_div low d *ℤ pos (2 ^ 32) +ℤ pos (2 ^ 57))
    wide m low n d h k l = omega (arith, ints, ceil_near_floor low m d n (2 ^ 24) h l k)

pub down_small : (p num : ℤ) (d : ℕ) → IsOperands p num d → unsigned_abs (product_down p num d) ≤ 2 ^ 119
unfolding product_down
down_small p num d o = elim (is_exact p num) as (λ t.
    unsigned_abs (cond t (floor_div (p *ℤ num) d) (floor_div (lesser_product p num) d *ℤ pos (2 ^ 32))) ≤ 2 ^
    119) [
      | true ↦ floor_within _ d (2 ^ 119) o.positive (product_within p num d o.p_in o.fraction_in)
      | false ↦
          wide (floor_div (lesser_product p num) d)
          (floor_within (lesser_product p num) d (2 ^ 87) o.positive (lesser_within p num d o))
    ]
  where
    wide : (q : ℤ) → unsigned_abs q ≤ 2 ^ 87 → unsigned_abs (q *ℤ pos (2 ^ 32)) ≤ 2 ^ 119
    wide q h = omega (arith, ints, h)

pub up_small : (p num : ℤ) (d : ℕ) → IsOperands p num d → unsigned_abs (product_up p num d) ≤ 2 ^ 119
unfolding product_up
up_small p num d o = elim (is_exact p num) as (λ t.
    unsigned_abs (cond t (ceil_div (p *ℤ num) d) (ceil_div (greater_product p num) d *ℤ pos (2 ^ 32))) ≤ 2 ^
    119) [
      | true ↦ ceil_within _ d (2 ^ 119) o.positive (product_within p num d o.p_in o.fraction_in)
      | false ↦
          wide (ceil_div (greater_product p num) d)
          (ceil_within (greater_product p num) d (2 ^ 87) o.positive (greater_within p num d o))
    ]
  where
    wide : (q : ℤ) → unsigned_abs q ≤ 2 ^ 87 → unsigned_abs (q *ℤ pos (2 ^ 32)) ≤ 2 ^ 119
    wide q h = omega (arith, ints, h)

-- ---- the two cases

pub down_exact : (p num : ℤ) (d : ℕ) → is_exact p num ≡ true → product_down p num d ≡ floor_div (p *ℤ num) d
unfolding product_down
down_exact p num d e = rw e refl

pub down_wide : (p num : ℤ) (d : ℕ) → is_exact p num ≡ false →
    product_down p num d ≡ floor_div (lesser_product p num) d *ℤ pos (2 ^ 32)
unfolding product_down
down_wide p num d e = rw e refl

pub up_exact : (p num : ℤ) (d : ℕ) → is_exact p num ≡ true → product_up p num d ≡ ceil_div (p *ℤ num) d
unfolding product_up
up_exact p num d e = rw e refl

pub up_wide : (p num : ℤ) (d : ℕ) → is_exact p num ≡ false →
    product_up p num d ≡ ceil_div (greater_product p num) d *ℤ pos (2 ^ 32)
unfolding product_up
up_wide p num d e = rw e refl

pub lesser_quotient_within : (p num : ℤ) (d : ℕ) → IsOperands p num d →
    unsigned_abs (floor_div (lesser_product p num) d) ≤ 2 ^ 87
lesser_quotient_within p num d o =
    floor_within (lesser_product p num) d (2 ^ 87) o.positive (lesser_within p num d o)

pub greater_quotient_within : (p num : ℤ) (d : ℕ) → IsOperands p num d →
    unsigned_abs (ceil_div (greater_product p num) d) ≤ 2 ^ 87
greater_quotient_within p num d o =
    ceil_within (greater_product p num) d (2 ^ 87) o.positive (greater_within p num d o)

pub product_ordered : (p num : ℤ) (d : ℕ) → 0 < d → product_down p num d ≤ℤ product_up p num d
product_ordered p num d h =
    let products : (up (product_down p num d) + down (product_up p num d)) * d ≤ (up (product_up p num d)
    + down (product_down p num d)) * d =
    omega (arith, ints, down_below p num d h, up_above p num d h) in
    omega (arith, ints, le_of_mul-le-mul_right products h)

-- ---- a bound that scales with the number

product_bound : (q num : ℤ) (d b : ℕ) → unsigned_abs num < 2 ^ 24 * d → unsigned_abs q ≤ b →
    unsigned_abs (q *ℤ num) ≤ b * 2 ^ 24 * d
product_bound q num d b k h =
    omega (arith, unsigned_abs-mul q num, mul-le-mul_right (unsigned_abs num) h, mul-le-mul_left b (le_of_lt k))

pub down_scales : (p num : ℤ) (d b : ℕ) → 0 < d → unsigned_abs num < 2 ^ 24 * d → unsigned_abs p ≤ b * 2 ^ 32 →
    unsigned_abs (product_down p num d) ≤ b * 2 ^ 56
unfolding product_down
down_scales p num d b h k l =
    let narrow : unsigned_abs (floor_div (lesser_product p num) d) ≤ b * 2 ^ 24 =
    floor_bound (lesser_product p num) d (b * 2 ^ 24) h
    (min_within (floor_div p (2 ^ 32) *ℤ num) (ceil_div p (2 ^ 32) *ℤ num) (b * 2 ^ 24 * d)
    (product_bound (floor_div p (2 ^ 32)) num d b k (floor_bound p (2 ^ 32) b (omega arith) l))
    (product_bound (ceil_div p (2 ^ 32)) num d b k (ceil_bound p (2 ^ 32) b (omega arith) l))) in
    let whole : unsigned_abs (p *ℤ num) ≤ b * 2 ^ 56 * d = omega (arith, product_bound p num d (b * 2 ^ 32) k l) in
    elim (is_exact p num) as (λ t.
    unsigned_abs (cond t (floor_div (p *ℤ num) d) (floor_div (lesser_product p num) d *ℤ pos (2 ^ 32))) ≤ b *
    2 ^ 56) [
      | true ↦ floor_bound (p *ℤ num) d (b * 2 ^ 56) h whole
      | false ↦ omega (
        arith,
        unsigned_abs-mul (floor_div (lesser_product p num) d) (pos (2 ^ 32)),
        narrow,
      )
    ]

pub up_scales : (p num : ℤ) (d b : ℕ) → 0 < d → unsigned_abs num < 2 ^ 24 * d → unsigned_abs p ≤ b * 2 ^ 32 →
    unsigned_abs (product_up p num d) ≤ b * 2 ^ 56
unfolding product_up
up_scales p num d b h k l =
    let narrow : unsigned_abs (ceil_div (greater_product p num) d) ≤ b * 2 ^ 24 =
    ceil_bound (greater_product p num) d (b * 2 ^ 24) h
    (max_within (floor_div p (2 ^ 32) *ℤ num) (ceil_div p (2 ^ 32) *ℤ num) (b * 2 ^ 24 * d)
    (product_bound (floor_div p (2 ^ 32)) num d b k (floor_bound p (2 ^ 32) b (omega arith) l))
    (product_bound (ceil_div p (2 ^ 32)) num d b k (ceil_bound p (2 ^ 32) b (omega arith) l))) in
    let whole : unsigned_abs (p *ℤ num) ≤ b * 2 ^ 56 * d = omega (arith, product_bound p num d (b * 2 ^ 32) k l) in
    elim (is_exact p num) as (λ t.
    unsigned_abs (cond t (ceil_div (p *ℤ num) d) (ceil_div (greater_product p num) d *ℤ pos (2 ^ 32))) ≤ b *
    2 ^ 56) [
      | true ↦ ceil_bound (p *ℤ num) d (b * 2 ^ 56) h whole
      | false ↦ omega (
        arith,
        unsigned_abs-mul (ceil_div (greater_product p num) d) (pos (2 ^ 32)),
        narrow,
      )
    ]

pub rounded_product : (p num : ℤ) (d : ℕ) (low high : ℤ) → IsOperands p num d → low ≡ product_down p num d →
    high ≡ product_up p num d → IsRoundedProduct p num d low high
rounded_product p num d low high o e f = rw (e, f) record {
  low_is = refl;
  high_is = refl;
  ordered = product_ordered p num d o.positive;
  low_in = down_small p num d o;
  high_in = up_small p num d o;
  below = down_below p num d o.positive;
  above = up_above p num d o.positive;
  near = product_near p num d o.positive o.fraction_in;
  low_scales = λ b k. down_scales p num d b o.positive o.fraction_in k;
  high_scales = λ b k. up_scales p num d b o.positive o.fraction_in k;
}
