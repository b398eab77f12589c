-- The floor and the ceiling of z / n, and products with natural numbers.
use Rattle.std.proofs.Common.{◌≡◌, ℕ, zero, suc, ◌+◌, ◌*◌, ◌/◌, ◌%◌, ◌<◌, ◌≤◌, ℤ, pos, negsuc, neg_ℤ, ◌+ℤ◌}
use Rattle.std.proofs.Common.{◌*ℤ◌, ◌≤ℤ◌, ◌<ℤ◌, unsigned_abs, max, arith}
use Rattle.std.proofs.Math.Nat.{mul-le-mul_right}
use Rattle.std.proofs.lemmas.Nat.{div_below, div-add-mod', mod_below}
use Rattle.std.proofs.lemmas.Int.{ints, unsigned_abs-mul}
use borrow.Author.Differences.{up, down}
use Rattle.fx_math.specs.Division.{floor_div, ceil_div}
use Rattle.fx_math.proofs.Ring.{neg-mul}

pub floor_below : (z : ℤ) (n : ℕ) → 0 < n → (floor_div z n *ℤ pos n) ≤ℤ z
floor_below (pos a) n h = omega (arith, ints, div-add-mod' a n)
floor_below (negsuc a) n h = omega (arith, ints, div-add-mod' a n, mod_below a n h)

pub floor_above : (z : ℤ) (n : ℕ) → 0 < n → z <ℤ (floor_div z n *ℤ pos n +ℤ pos n)
floor_above (pos a) n h = omega (arith, ints, div-add-mod' a n, mod_below a n h)
floor_above (negsuc a) n h = omega (arith, ints, div-add-mod' a n, mod_below a n h)

pub ceil_above : (z : ℤ) (n : ℕ) → 0 < n → z ≤ℤ (ceil_div z n *ℤ pos n)
ceil_above z n h = omega (arith, ints, floor_below (neg_ℤ z) n h, neg-mul (floor_div (neg_ℤ z) n) (pos n))

pub ceil_below : (z : ℤ) (n : ℕ) → 0 < n → (ceil_div z n *ℤ pos n) <ℤ (z +ℤ pos n)
ceil_below z n h = omega (arith, ints, floor_above (neg_ℤ z) n h, neg-mul (floor_div (neg_ℤ z) n) (pos n))

div_suc : (a n : ℕ) → 0 < n → suc a / n ≤ a / n + 1
div_suc a n h =
    let whole : a / n * n + a % n ≡ a = div-add-mod' a n in
    let rest : a % n < n = mod_below a n h in
    let below : suc a < (a / n + 2) * n = omega (arith, whole, rest) in
    omega (arith, div_below (suc a) n (a / n + 2) h below)

pub floor_le-ceil : (z : ℤ) (n : ℕ) → 0 < n → floor_div z n ≤ℤ ceil_div z n
floor_le-ceil (pos zero) n h = omega (arith, ints)
floor_le-ceil (pos (suc a)) n h = omega (arith, ints, div_suc a n h)
floor_le-ceil (negsuc a) n h = omega (arith, ints, div_suc a n h)

-- a numerator within m n has its floor within m
pub floor_bound : (z : ℤ) (n m : ℕ) → 0 < n → unsigned_abs z ≤ m * n → unsigned_abs (floor_div z n) ≤ m
floor_bound (pos a) n m h k = omega (arith, div_below a n (m + 1) h (omega (arith, k)))
floor_bound (negsuc a) n m h k = let below : a < m * n = omega arith in omega (arith, div_below a n m h below)

-- ---- products with natural numbers

pub mul_le_nat : (a b : ℤ) (k : ℕ) → a ≤ℤ b → (a *ℤ pos k) ≤ℤ (b *ℤ pos k)
mul_le_nat a b k h = let e : up a + down b ≤ up b + down a =
    omega (arith, ints) in omega (arith, ints, mul-le-mul_right k e)

pub mul_abs_le : (e : ℤ) (t : ℕ) → (e *ℤ pos t) ≤ℤ pos (unsigned_abs e * t)
mul_abs_le (pos n) t = omega (arith, ints)
mul_abs_le (negsuc n) t = omega (arith, ints)

pub mul_abs_ge : (e : ℤ) (t : ℕ) → neg_ℤ (pos (unsigned_abs e * t)) ≤ℤ (e *ℤ pos t)
mul_abs_ge (pos n) t = omega (arith, ints)
mul_abs_ge (negsuc n) t = omega (arith, ints)

pub cancel_lt : (a b k : ℕ) → a * k < b * k → a < b
cancel_lt a b k e = grind arith

-- what lies between two multiples has a magnitude of at most the greater one's
pub between : (x lo hi : ℤ) (s t : ℕ) → (lo *ℤ pos t) ≤ℤ (x *ℤ pos s) → (x *ℤ pos s) ≤ℤ (hi *ℤ pos t) →
    unsigned_abs x * s ≤ max (unsigned_abs lo) (unsigned_abs hi) * t
between x lo hi s t below above =
    let m = max (unsigned_abs lo) (unsigned_abs hi) in
    let e : unsigned_abs lo * t ≤ m * t = mul-le-mul_right t (omega arith) in
    let f : unsigned_abs hi * t ≤ m * t = mul-le-mul_right t (omega arith) in
    omega (arith, ints, e, f, mul_abs_ge lo t, mul_abs_le hi t, unsigned_abs-mul x (pos s))
