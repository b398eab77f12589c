-- Rounding to the nearest whole number, and odd parts.
use Rattle.std.proofs.Common.{◌≡◌, ℕ, zero, suc, ◌+◌, ◌-◌, ◌*◌, ◌^◌, ◌<◌, ◌≤◌, refl, arith, ap}
use Rattle.std.proofs.Common.{◌∙◌, ◌≢◌, false, lit<, unsigned_abs}
use Rattle.std.proofs.Math.IntN.{ℤ, pos, negsuc, ◌+ℤ◌, ◌-ℤ◌, ◌*ℤ◌}
use Rattle.std.proofs.Math.Nat.{pow-le-pow_right, mul-le-mul_left, mul-le-mul_right, pow-suc}
use Rattle.std.proofs.lemmas.Bool.{or_parts}
use Rattle.std.proofs.lemmas.Int.{ints, unsigned_abs-mul}
use Rattle.std.proofs.lemmas.Nat.{pow_pos}
use Rattle.std.proofs.lemmas.Nat.Bits.{bit_at-trailing_zeros}
use borrow.Author.Differences.{up, down}
use Rattle.std.specs.Int.{w128, trailing_zeros}
use Rattle.fx_math.specs.Division.{floor_div}
use Rattle.fx_math.proofs.Division.{floor_bound}
use Rattle.fx_math.proofs.Orders.{not_le}
use Rattle.fx_math.proofs.Rounding.{floor_parts}
use Rattle.fx_nums.specs.Fraction.{den_value}
use Rattle.fx_quant.specs.Rounding.{rounded}
use Rattle.fx_quant.specs.Rows.{left_of, product_of, is_wide}
use Rattle.fx_quant.specs.Laws.{RoundsToNearest}
use Rattle.fx_quant.specs.declared.scaled.Scaled.{Scaled}

-- ---- bounds

shift_is : (z : ℤ) (k : ℕ) → unsigned_abs (z *ℤ pos (2 ^ k)) ≡ unsigned_abs z * 2 ^ k
shift_is z k = unsigned_abs-mul z (pos (2 ^ k))

shifted_below : (z : ℤ) (k m bound most : ℕ) → unsigned_abs z < bound → k ≤ m → bound * 2 ^ m ≤ most →
    unsigned_abs (z *ℤ pos (2 ^ k)) < most
shifted_below z k m bound most h l e =
    let power : 2 ^ k ≤ 2 ^ m = pow-le-pow_right (lit< tt) l in
    let some : 0 < 2 ^ k = pow_pos k in
    let one : suc (unsigned_abs z) * 2 ^ k ≤ bound * 2 ^ k = mul-le-mul_right (2 ^ k) h in
    let two : bound * 2 ^ k ≤ bound * 2 ^ m = mul-le-mul_left bound power in
    omega (arith, shift_is z k, some, one, two, e)

pub product_fits : (z : ℤ) (k : ℕ) → unsigned_abs z < 2 ^ 65 → k ≤ 62 → unsigned_abs (z *ℤ pos (2 ^ k)) < 2 ^ 127
product_fits z k h l = shifted_below z k 62 (2 ^ 65) (2 ^ 127) h l (omega arith)

pub doubled_small : (z : ℤ) (k : ℕ) → unsigned_abs z < 2 ^ 62 → k ≤ 40 → unsigned_abs (z *ℤ pos (2 ^ (k + 1))) < 2 ^ 103
doubled_small z k h l = shifted_below z (k + 1) 41 (2 ^ 62) (2 ^ 103) h (omega arith) (omega arith)

pub doubled_fits : (z : ℤ) (k : ℕ) → unsigned_abs z < 2 ^ 62 → k ≤ 40 → unsigned_abs (z *ℤ pos (2 ^ (k + 1))) < 2 ^ 127
doubled_fits z k h l = shifted_below z (k + 1) 41 (2 ^ 62) (2 ^ 127) h (omega arith) (omega arith)

pub doubled_bound : (z : ℤ) (k den : ℕ) → unsigned_abs z < 2 ^ 24 * den → k ≤ 40 →
    unsigned_abs (z *ℤ pos (2 ^ (k + 1))) ≤ 2 ^ 65 * den
doubled_bound z k den h l =
    let below = shifted_below z (k + 1) 41 (2 ^ 24 * den) (2 ^ 24 * den * 2 ^ 41) h (omega arith) (omega arith) in
    omega (arith, below)

pub doubled_within : (y z : ℤ) (k den : ℕ) → y ≡ z *ℤ pos (2 ^ (k + 1)) → unsigned_abs z < 2 ^ 24 * den →
    k ≤ 40 → unsigned_abs y ≤ 2 ^ 65 * den
doubled_within y z k den e h l = rw e (doubled_bound z k den h l)

pub raised_small : (z y : ℤ) (den : ℕ) → y ≡ z +ℤ pos den → unsigned_abs z ≤ 2 ^ 65 * den →
    unsigned_abs y ≤ (2 ^ 65 - 1) * (2 * den)
raised_small z y den e h = omega (arith, ints, e, h)

-- the odd part is no greater than the number
pub odd_small : (c : ℤ) (k : ℕ) → unsigned_abs c < 2 ^ 65 → unsigned_abs (floor_div c (2 ^ k)) < 2 ^ 65
odd_small c k h =
    let some : 0 < 2 ^ k = pow_pos k in
    let more : unsigned_abs c * 1 ≤ unsigned_abs c * 2 ^ k = mul-le-mul_left (unsigned_abs c) some in
    let within : unsigned_abs (floor_div c (2 ^ k)) ≤ unsigned_abs c =
    floor_bound c (2 ^ k) (unsigned_abs c) some (omega (arith, more)) in
    omega (arith, within, h)

pub narrow_small : (shift : ℕ) (k : Scaled) → is_wide shift k ≡ false → unsigned_abs k.odd < 2 ^ 62
narrow_small shift k e =
    let below : unsigned_abs (product_of shift k) < 2 ^ 62 = not_le (2 ^ 62) _ (or_parts _ _ e).0 in
    let some : 0 < 2 ^ left_of shift k = pow_pos (left_of shift k) in
    let more : unsigned_abs k.odd * 1 ≤ unsigned_abs k.odd * 2 ^ left_of shift k =
    mul-le-mul_left (unsigned_abs k.odd) some in
    omega (arith, below, more, shift_is k.odd (left_of shift k))

-- ---- zeros

positive : (c : ℤ) → c ≢ pos 0 → 0 < unsigned_abs c
positive (pos zero) h = absurd (h refl)
positive (pos (suc n)) h = omega arith
positive (negsuc n) h = omega arith

pub zeros_high : (c : ℤ) → c ≢ pos 0 → unsigned_abs c < 2 ^ 65 → trailing_zeros w128 (unsigned_abs c) < 128
zeros_high c h l = (bit_at-trailing_zeros w128 (unsigned_abs c) (positive c h) (omega (arith, l))).0

-- ---- laws

pub to_nearest : RoundsToNearest
unfolding rounded
to_nearest fraction c h =
    let next : fraction + 1 ≡ suc fraction = omega arith in
    let twice : 2 ^ (fraction + 1) ≡ 2 ^ fraction * 2 = ap (λ k. 2 ^ k) next ∙ pow-suc 2 fraction in
    let p = floor_parts (c.num *ℤ pos (2 ^ (fraction + 1)) +ℤ pos (den_value c.den)) (2 * den_value c.den)
    (omega (arith, h)) in
    parts c.num (floor_div (c.num *ℤ pos (2 ^ (fraction + 1)) +ℤ pos (den_value c.den)) (2 * den_value c.den))
    (2 ^ fraction) (2 ^ (fraction + 1)) (den_value c.den) twice p
  where
    parts : (num q : ℤ) (s t den : ℕ) → t ≡ s * 2 →
        (up q * (2 * den) + down (num *ℤ pos t +ℤ pos den) ≤ down q * (2 * den) + up (num *ℤ pos t +ℤ pos den))
        × (down q * (2 * den) + up (num *ℤ pos t +ℤ pos den) < up q * (2 * den) + down (num *ℤ pos t +ℤ pos den)
        + 2 * den) → 2 * unsigned_abs (q *ℤ pos den -ℤ num *ℤ pos s) ≤ den
    parts num q s t den e p = omega (arith, ints, ap (λ x. num *ℤ pos x) e, p)
