-- Floors and ceilings as `omega` reads them, their bounds, and those of a magnitude with a sign.
use Rattle.std.proofs.Common.{◌≡◌, ℕ, zero, suc, ◌+◌, ◌*◌, ◌/◌, ◌%◌, ◌<◌, ◌≤◌, ℤ, pos, negsuc, neg_ℤ, ◌+ℤ◌}
use Rattle.std.proofs.Common.{◌*ℤ◌, ◌≤ℤ◌, ◌<ℤ◌, unsigned_abs, inl, inr, refl, ap, subst, ◌∙◌, arith}
use Rattle.std.specs.Int.{div_ceil}
use Rattle.std.proofs.Math.Nat.{lt_of_mul-lt-mul_right}
use Rattle.std.proofs.lemmas.Bool.{cases_lt}
use Rattle.std.proofs.lemmas.Int.{ints}
use Rattle.std.proofs.lemmas.Nat.{div-add-mod', div-mul-add, mod-mul-add, mod_below}
use borrow.Author.Differences.{up, down, neg_is}
use Rattle.fx_math.specs.Division.{floor_div, ceil_div}
use Rattle.fx_math.proofs.Division.{floor_bound}

-- the quotient q that rounds down has k * q ≤ a < k * q + k
pub floor_parts : (a : ℤ) (k : ℕ) → 0 < k → (up (floor_div a k) * k + down a ≤ down (floor_div a k) * k + up a)
    × (down (floor_div a k) * k + up a < up (floor_div a k) * k + down a + k)
floor_parts (pos a) k h = omega (arith, div-add-mod' a k, mod_below a k h)
floor_parts (negsuc a) k h = omega (arith, div-add-mod' a k, mod_below a k h)

-- the quotient q that rounds up has q * k - k < a ≤ q * k
pub ceil_parts : (a : ℤ) (k : ℕ) → 0 < k → (down (ceil_div a k) * k + up a ≤ up (ceil_div a k) * k + down a)
    × (up (ceil_div a k) * k + down a < down (ceil_div a k) * k + up a + k)
ceil_parts a k h = turned (floor_div (neg_ℤ a) k) a k (floor_parts (neg_ℤ a) k h)
  where
    turned : (q a : ℤ) (k : ℕ) → (up q * k + down (neg_ℤ a) ≤ down q * k + up (neg_ℤ a))
        × (down q * k + up (neg_ℤ a) < up q * k + down (neg_ℤ a) + k) →
        (down (neg_ℤ q) * k + up a ≤ up (neg_ℤ q) * k + down a)
        × (up (neg_ℤ q) * k + down a < down (neg_ℤ q) * k + up a + k)
    turned (pos zero) a k h = omega (arith, neg_is a)
    turned (pos (suc q)) a k h = omega (arith, neg_is a)
    turned (negsuc q) a k h = omega (arith, neg_is a)

-- for `omega (arith, ints, roundings)`
pub ruleset roundings = (floor_parts, ceil_parts)

pub ceil_bound : (z : ℤ) (n m : ℕ) → 0 < n → unsigned_abs z ≤ m * n → unsigned_abs (ceil_div z n) ≤ m
ceil_bound z n m h k = omega (arith, ints, floor_bound (neg_ℤ z) n m h (omega (arith, ints, k)))

-- of numbers that differ by n, below f times the divisor, the quotients differ by at most f + 1
pub ceil_near_floor : (low high : ℤ) (d n f : ℕ) → 0 < d → high ≤ℤ (low +ℤ pos n) → n < f * d →
    ceil_div high d ≤ℤ (floor_div low d +ℤ pos (f + 1))
ceil_near_floor low high d n f h k l =
    let c = ceil_parts high d h in
    let g = floor_parts low d h in
    let products : (up (ceil_div high d) + down (floor_div low d)) * d < (up (floor_div low d)
    + down (ceil_div high d) + f + 2) * d =
    omega (arith, ints, c, g) in
    let quotients = lt_of_mul-lt-mul_right d products in
    omega (arith, ints, quotients)

-- ---- of a magnitude and a sign

-- a quotient and its rest
pub quotient_is : (q t r n : ℕ) → q * t + r ≡ n → r < t → n / t ≡ q
quotient_is q t r n e h = rw (← e) (div-mul-add q t r h)

pub rest_is : (q t r n : ℕ) → q * t + r ≡ n → r < t → n % t ≡ r
rest_is q t r n e h = rw (← e) (mod-mul-add q t r h)

div_ceil_next : (a t : ℕ) → 0 < t → div_ceil (suc a) t ≡ suc (a / t)
div_ceil_next a t h = subst (λ x. div_ceil (suc x) t ≡ suc (a / t)) (div-add-mod' a t)
    (parts (a / t) (a % t) t h (mod_below a t h))
  where
    whole : (q r t : ℕ) → suc r ≡ t → 0 < t → div_ceil (suc (q * t + r)) t ≡ suc q
    whole q r t e h =
        let same : suc q * t + 0 ≡ suc (q * t + r) = omega arith in
        let quotient : suc (q * t + r) / t ≡ suc q = quotient_is (suc q) t 0 _ same h in
        let rest : suc (q * t + r) % t ≡ 0 = rest_is (suc q) t 0 _ same h in
        omega (arith, quotient, rest)

    broken : (q r t : ℕ) → suc r < t → 0 < t → div_ceil (suc (q * t + r)) t ≡ suc q
    broken q r t l h =
        let same : q * t + suc r ≡ suc (q * t + r) = omega arith in
        let quotient : suc (q * t + r) / t ≡ q = quotient_is q t (suc r) _ same l in
        let rest : suc (q * t + r) % t ≡ suc r = rest_is q t (suc r) _ same l in
        omega (arith, quotient, rest)

    parts : (q r t : ℕ) → 0 < t → r < t → div_ceil (suc (q * t + r)) t ≡ suc q
    parts q r t h l = elim (cases_lt (suc r) t) [ inl k ↦ broken q r t k h | inr k ↦ whole q r t (omega arith) h ]

-- the floor of a number below 0, from the quotient of its magnitude rounded up
pub floor_of_negative : (z : ℤ) (a q t : ℕ) → 0 < t → z <ℤ pos 0 → a ≡ unsigned_abs z → q ≡ div_ceil a t →
    (up (floor_div z t) ≡ 0) × (down (floor_div z t) ≡ q)
floor_of_negative (pos n) a q t h l e f = absurd (omega (arith, ints, l))
floor_of_negative (negsuc n) a q t h l e f = (refl, omega (arith, div_ceil_next n t h, f ∙ ap (λ x. div_ceil x t) e))

-- the ceiling of any other number, from the quotient of its magnitude rounded up
pub ceil_of_positive : (z : ℤ) (a q t : ℕ) → 0 < t → pos 0 ≤ℤ z → a ≡ unsigned_abs z → q ≡ div_ceil a t →
    (up (ceil_div z t) ≡ q) × (down (ceil_div z t) ≡ 0)
ceil_of_positive (pos zero) a q t h l e f = rw (f, e) (omega (arith, neg_is (pos (0 / t))))
ceil_of_positive (pos (suc n)) a q t h l e f = rw (f, e, div_ceil_next n t h) (refl, refl)
ceil_of_positive (negsuc n) a q t h l e f = absurd (omega (arith, ints, l))
