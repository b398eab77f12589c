-- Inequalities of one product, and of sums of them.
use Rattle.std.proofs.Common.{◌≡◌, ℕ, zero, suc, ◌+◌, ◌*◌, ◌<◌, ◌≤◌, arith, refl, ap, ◌∙◌}
use Rattle.std.proofs.Math.IntN.{ℤ, pos, negsuc, ◌+ℤ◌, ◌*ℤ◌, neg_ℤ}
use Rattle.std.proofs.Math.Nat.{mul-le-mul_left, mul-le-mul_right}
use Rattle.std.specs.Int.Signed.{◌≤ℤ◌}
use Rattle.std.specs.Prelude.{unsigned_abs}
use Rattle.std.proofs.lemmas.Int.{ints, clamps, unsigned_abs-mul}
use borrow.Author.Differences.{up, down}
use Rattle.fx_math.specs.Division.{ceil_div}
use Rattle.fx_math.specs.Sums.{total, sum_below}
use Rattle.fx_math.proofs.Division.{ceil_above}
use Rattle.fx_math.proofs.Ring.{mul-add, mul-le, left_comm}
use Rattle.fx_math.proofs.Sums.{total_ext, total_le, total_mul, collect}
use Rattle.fx_nums.specs.Interval.{Interval, magnitude}
use Rattle.fx_sweep.proofs.Sides.{upper, factor_out}
use Rattle.fx_totals.specs.Bounds.{least_product, greatest_product}

abs_parts : (v : ℤ) → unsigned_abs v ≡ up v + down v
abs_parts (pos n) = omega arith
abs_parts (negsuc n) = omega arith

-- ---- products with an interval

product_within : (e u : ℤ) (g b : ℕ) → unsigned_abs e ≤ g → unsigned_abs u ≤ b → unsigned_abs (e *ℤ u) ≤ g * b
product_within e u g b h k =
    omega (arith, unsigned_abs-mul e u, mul-le-mul_left (unsigned_abs e) k, mul-le-mul_right b h)

low_within : (a : Interval) (u : ℤ) (b : ℕ) → unsigned_abs u ≤ b → unsigned_abs (a.lo *ℤ u) ≤ magnitude a * b
low_within a u b h = product_within a.lo u (magnitude a) b (omega arith) h

high_within : (a : Interval) (u : ℤ) (b : ℕ) → unsigned_abs u ≤ b → unsigned_abs (a.hi *ℤ u) ≤ magnitude a * b
high_within a u b h = product_within a.hi u (magnitude a) b (omega arith) h

pub greatest_within : (a : Interval) (u : ℤ) (b : ℕ) → unsigned_abs u ≤ b →
    greatest_product a u ≤ℤ (pos (magnitude a) *ℤ pos b)
greatest_within a u b h = omega (arith, ints, clamps, low_within a u b h, high_within a u b h)

pub least_within : (a : Interval) (u : ℤ) (b : ℕ) → unsigned_abs u ≤ b →
    neg_ℤ (least_product a u) ≤ℤ (pos (magnitude a) *ℤ pos b)
least_within a u b h = omega (arith, ints, clamps, low_within a u b h, high_within a u b h)

abs_times : (a : ℤ) (x : ℕ) → ((a *ℤ pos x) ≤ℤ pos (unsigned_abs a * x))
    × (neg_ℤ (a *ℤ pos x) ≤ℤ pos (unsigned_abs a * x))
abs_times (pos n) x = (omega (arith, ints), omega (arith, ints))
abs_times (negsuc n) x = (omega (arith, ints), omega (arith, ints))

upper_within : (a : Interval) (v : ℤ) → upper a v ≤ℤ pos (magnitude a * unsigned_abs v)
upper_within a v =
    let h : unsigned_abs a.hi ≤ magnitude a = omega arith in
    let l : unsigned_abs a.lo ≤ magnitude a = omega arith in
    let e : magnitude a * unsigned_abs v ≡ magnitude a * up v + magnitude a * down v =
    ap (λ n. magnitude a * n) (abs_parts v) ∙ omega arith in
    omega (
      arith,
      ints,
      e,
      (abs_times a.hi (up v)).0,
      (abs_times a.lo (down v)).1,
      mul-le-mul_right (up v) h,
      mul-le-mul_right (down v) l,
    )

pub rest_within : (d : ℕ) (a : Interval) (v : ℤ) (x : ℕ) → unsigned_abs v ≤ x * d →
    upper a v ≤ℤ (pos d *ℤ pos (magnitude a * x))
rest_within d a v x h =
    let e : magnitude a * unsigned_abs v ≤ magnitude a * (x * d) = mul-le-mul_left (magnitude a) h in
    let g : magnitude a * (x * d) ≡ d * (magnitude a * x) = omega arith in
    omega (arith, ints, upper_within a v, e, g)

-- ---- widths, and perturbations

pub longer : (w : ℤ) (x y : ℕ) → pos 0 ≤ℤ w → x ≤ y → (w *ℤ pos x) ≤ℤ (w *ℤ pos y)
longer (pos n) x y h l = omega (arith, ints, mul-le-mul_left n l)
longer (negsuc n) x y h l = absurd (omega (arith, ints))

pub width_within : (d : ℕ) (w v : ℤ) (x : ℕ) → pos 0 ≤ℤ w → unsigned_abs v ≤ x * d →
    (w *ℤ pos (up v)) ≤ℤ (pos d *ℤ (w *ℤ pos x))
width_within d w v x h l =
    let a : up v ≤ x * d = omega (arith, abs_parts v) in
    omega (arith, ints, longer w (up v) (x * d) h a, factor_out d w x)

pub no_width : (d : ℕ) (w v : ℤ) (x : ℕ) → w ≡ pos 0 → (w *ℤ pos (up v)) ≤ℤ (pos d *ℤ (w *ℤ pos x))
no_width d w v x e = rw e (omega (arith, ints))

below_abs : (z : ℤ) → z ≤ℤ pos (unsigned_abs z)
below_abs (pos n) = omega (arith, ints)
below_abs (negsuc n) = omega (arith, ints)

-- twice p within e d: so is twice a weight times p within the weight's magnitude times e d
pub perturbed_within : (w p : ℤ) (e d : ℕ) → 2 * unsigned_abs p ≤ e * d →
    (pos 2 *ℤ (w *ℤ p)) ≤ℤ (pos d *ℤ (pos (unsigned_abs w) *ℤ pos e))
perturbed_within w p e d h =
    omega (arith, ints, below_abs (w *ℤ p), unsigned_abs-mul w p, mul-le-mul_left (unsigned_abs w) h)

-- the half rounded up is at least the half
pub half_up : (z : ℤ) → z ≤ℤ (pos 2 *ℤ ceil_div z 2)
half_up z = omega (arith, ints, ceil_above z 2 (omega arith))

-- ---- sums

pub factored : (d n : ℕ) (f g : ℕ → ℤ) → ((i : ℕ) → i < n → f i ≤ℤ (pos d *ℤ g i)) → total n f ≤ℤ (pos d *ℤ total n g)
factored d n f g h = rw (total_mul (pos d) n g) (total_le n f (λ i. pos d *ℤ g i) h)

pub total_pos : (n : ℕ) (f : ℕ → ℕ) → total n (λ i. pos (f i)) ≡ pos (sum_below n f)
total_pos zero f = refl
total_pos (suc n) f = ap (λ x. x +ℤ pos (f n)) (total_pos n f)

-- a table of natural numbers with factors, row by row or column by column
pub gains_collect : (m n : ℕ) (f : ℕ → ℕ → ℕ) (x : ℕ → ℕ) →
    total m (λ k. total n (λ i. pos (f k i) *ℤ pos (x i))) ≡ total n (λ i. pos (sum_below m (λ k. f k i) * x i))
gains_collect m n f x =
    collect m n (λ k i. pos (f k i)) (λ i. pos (x i))
    ∙ total_ext n (λ i. total m (λ k. pos (f k i)) *ℤ pos (x i)) (λ i. pos (sum_below m (λ k. f k i) * x i))
    (λ i l. ap (λ y. y *ℤ pos (x i)) (total_pos m (λ k. f k i)))

two : (a b : ℤ) → a *ℤ (pos 2 *ℤ b) ≡ pos 2 *ℤ (a *ℤ b)
two a b = left_comm a (pos 2) b

-- the three parts of a moment, twice
pub twice_within : (d : ℕ) (w u p p2 w' u' p' : ℤ) → w ≤ℤ (pos d *ℤ w') → u ≤ℤ (pos d *ℤ u') →
    p2 ≤ℤ (pos d *ℤ p') → pos 2 *ℤ p ≡ p2 →
    (pos 2 *ℤ (w +ℤ (u +ℤ p))) ≤ℤ (pos d *ℤ (pos 2 *ℤ (u' +ℤ w') +ℤ p'))
twice_within d w u p p2 w' u' p' hw hu hp e =
    let a : pos d *ℤ (pos 2 *ℤ (u' +ℤ w') +ℤ p') ≡ pos 2 *ℤ (pos d *ℤ u') +ℤ pos 2 *ℤ (pos d *ℤ w') +ℤ pos d *ℤ p' =
    omega (arith, ints, mul-add (pos d) (pos 2 *ℤ (u' +ℤ w')) p', two (pos d) (u' +ℤ w'), mul-add (pos d) u' w') in
    omega (arith, ints, hw, hu, hp, e, a)

-- and all moments once: half of the roundings, rounded up
pub once_within : (d : ℕ) (all moments rest i w c h : ℤ) → all ≤ℤ (moments +ℤ rest) →
    (pos 2 *ℤ moments) ≤ℤ (pos d *ℤ (pos 2 *ℤ (i +ℤ w) +ℤ c)) → c ≤ℤ (pos 2 *ℤ h) →
    all ≤ℤ (pos d *ℤ (i +ℤ w +ℤ h) +ℤ rest)
once_within d all moments rest i w c h a b k =
    omega (
      arith,
      ints,
      a,
      b,
      mul-le d c (pos 2 *ℤ h) k,
      mul-add (pos d) (pos 2 *ℤ (i +ℤ w)) c,
      two (pos d) (i +ℤ w),
      two (pos d) h,
      mul-add (pos d) (i +ℤ w) h,
    )
