-- The two roundings of a quotient, from those of its magnitude.
use Rattle.std.proofs.Common.{◌≡◌, ℕ, zero, suc, ◌*◌, ◌/◌, ◌%◌, ◌^◌, ◌<◌, arith, refl, ℤ, pos, negsuc, ◌*ℤ◌, neg_ℤ}
use Rattle.std.proofs.Common.{unsigned_abs}
use Rattle.std.proofs.lemmas.Int.{ints, unsigned_abs-mul}
use Rattle.std.specs.Int.{div_ceil}
use Rattle.std.proofs.Common.{le_of_lt, Bool, true, false}
use mathlib.Core.Bool.{not, beq}
use lib.Signed.{lt_z}
use Rattle.std.proofs.Math.Nat.{mul-le-mul_right}
use Rattle.std.proofs.lemmas.Bool.{lt-ltb, ltb-true}
use Rattle.fx_nums.specs.Interval.{Interval}
use Rattle.fx_nums.specs.Products.{is_exact}
use Rattle.fx_math.specs.Division.{floor_div, ceil_div}
use Rattle.fx_math.proofs.Rounding.{ceil_of_positive, floor_of_negative, quotient_is, rest_is}

-- the two numbers have two signs
abbrev pub signs_differ : ℤ → ℤ → Bool
signs_differ w n = not (beq (lt_z w (pos 0)) (lt_z n (pos 0)))

not_below : (b : Bool) (w : ℕ) → lt_z (pos w) (pos 0) ≡ b → b ≡ false
not_below false w e = refl
not_below true w e = absurd (omega (arith, ltb-true w 0 e))

up_is : (w : ℕ) → lt_z (pos w) (pos 0) ≡ false
up_is w = not_below (lt_z (pos w) (pos 0)) w refl

-- a product of numbers of one sign is not negative
pub same_sign : (w n : ℤ) → signs_differ w n ≡ false → w *ℤ n ≡ pos (unsigned_abs w * unsigned_abs n)
same_sign (pos w) (pos n) e = refl
same_sign (pos w) (negsuc n) e = let f = rw (up_is w) at e in cc
same_sign (negsuc w) (pos n) e = let f = rw (up_is n) at e in cc
same_sign (negsuc w) (negsuc n) e = refl

-- one of numbers of two signs is not positive
pub other_sign : (w n : ℤ) → signs_differ w n ≡ true → w *ℤ n ≡ neg_ℤ (pos (unsigned_abs w * unsigned_abs n))
other_sign (pos w) (pos n) e = let f = rw (up_is w, up_is n) at e in cc
other_sign (pos w) (negsuc n) e = omega (arith, ints)
other_sign (negsuc w) (pos n) e = omega (arith, ints)
other_sign (negsuc w) (negsuc n) e = cc

nothing_over : (t : ℕ) → 0 < t → (0 / t ≡ 0) × (0 % t ≡ 0)
nothing_over t h = (quotient_is 0 t 0 0 (omega arith) h, rest_is 0 t 0 0 (omega arith) h)

pub floor_up : (a t : ℕ) → floor_div (pos a) t ≡ pos (a / t)
floor_up a t = refl

pub ceil_up : (a t : ℕ) → 0 < t → ceil_div (pos a) t ≡ pos (div_ceil a t)
ceil_up a t h = omega (arith, ints, ceil_of_positive (pos a) a (div_ceil a t) t h (omega (arith, ints)) refl refl)

pub floor_down : (a t : ℕ) → 0 < t → floor_div (neg_ℤ (pos a)) t ≡ neg_ℤ (pos (div_ceil a t))
floor_down zero t h = omega (arith, ints, nothing_over t h)
floor_down (suc a) t h = omega (
  arith,
  ints,
  floor_of_negative (negsuc a) (suc a) (div_ceil (suc a) t) t h
      (omega (arith, ints)) refl refl,
)

pub ceil_down : (a t : ℕ) → ceil_div (neg_ℤ (pos a)) t ≡ neg_ℤ (pos (a / t))
ceil_down zero t = refl
ceil_down (suc a) t = refl

-- the ends of a product that is not positive, and of one that is not negative
pub down_ends : (w n : ℤ) (x m t f c : ℕ) → 0 < t → signs_differ w n ≡ true → x ≡ unsigned_abs w →
    m ≡ unsigned_abs n → f ≡ x * m / t → c ≡ div_ceil (x * m) t →
    (floor_div (w *ℤ n) t ≡ neg_ℤ (pos c)) × (ceil_div (w *ℤ n) t ≡ neg_ℤ (pos f))
down_ends w n x m t f c h e a b g k =
    rw (other_sign w n e, g, k, a, b)
    (floor_down (unsigned_abs w * unsigned_abs n) t h, ceil_down (unsigned_abs w * unsigned_abs n) t)

pub up_ends : (w n : ℤ) (x m t f c : ℕ) → 0 < t → signs_differ w n ≡ false → x ≡ unsigned_abs w →
    m ≡ unsigned_abs n → f ≡ x * m / t → c ≡ div_ceil (x * m) t →
    (floor_div (w *ℤ n) t ≡ pos f) × (ceil_div (w *ℤ n) t ≡ pos c)
up_ends w n x m t f c h e a b g k =
    rw (same_sign w n e, g, k, a, b)
    (floor_up (unsigned_abs w * unsigned_abs n) t, ceil_up (unsigned_abs w * unsigned_abs n) t h)

-- a product of numbers below 2 ^ 64 and 2 ^ 62 is taken exactly
pub small_is_exact : (w n : ℤ) → unsigned_abs w < 2 ^ 64 → unsigned_abs n < 2 ^ 62 → is_exact w n ≡ true
small_is_exact w n h k = lt-ltb _ _ (omega (
  arith,
  unsigned_abs-mul w n,
  mul-lt-mul (unsigned_abs w)
      (unsigned_abs n) h k,
))
  where
    mul-lt-mul : (a b : ℕ) → a < 2 ^ 64 → b < 2 ^ 62 → a * b < 2 ^ 126
    mul-lt-mul a b h k = omega (arith, mul-le-mul_right b (le_of_lt h), k)

-- an interval by its ends
pub same_ends : (i : Interval) (low high : ℤ) → i.lo ≡ low → i.hi ≡ high → i ≡ record { lo = low; hi = high }
same_ends i low high e f = rw (← e, ← f) refl
