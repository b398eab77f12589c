-- A number in units of its last place, rounded up and down.
use Rattle.std.proofs.Common.{◌≡◌, ◌<◌, ◌+◌, ◌*◌, ◌/◌, ◌%◌, ◌^◌, ◌∙◌, ℕ, zero, suc, ℤ, pos, negsuc, neg_ℤ, ◌*ℤ◌}
use Rattle.std.proofs.Common.{Bool, true, false, ◌&&◌, not, ◌==◌, unsigned_abs, ◌<ℤ◌, ◌≤ℤ◌, List, refl, sym, ap}
use Rattle.std.proofs.Common.{arith}
use Rattle.std.proofs.Math.Nat.{mul-add-div_right, mul-add-mod_self_right}
use Rattle.std.specs.Int.{div_ceil}
use Rattle.std.proofs.lemmas.Bool.Decides.{nat_tests}
use Rattle.std.proofs.lemmas.Int.{ints}
use Rattle.fx_decimal.proofs.Digits.{ten_some}
use Rattle.fx_math.specs.Division.{ceil_div, floor_div}
use Rattle.fx_decimal.specs.Printed.{down_text, fixed_text, units, up_text, written}

apart : (w r t : ℕ) → (w * 2 ^ 64 + r) * t ≡ w * t * 2 ^ 64 + r * t
apart w r t = grind arith

-- the whole part and the rest apart
parted : (m t : ℕ) → m * t ≡ m / 2 ^ 64 * t * 2 ^ 64 + m % 2 ^ 64 * t
parted m t =
    let whole : m ≡ m / 2 ^ 64 * 2 ^ 64 + m % 2 ^ 64 = omega arith in
    ap (λ (x : ℕ). x * t) whole ∙ apart (m / 2 ^ 64) (m % 2 ^ 64) t

pub units_down : (m k : ℕ) → units false m k ≡ m / 2 ^ 64 * 10 ^ k + m % 2 ^ 64 * 10 ^ k / 2 ^ 64
unfolding units
units_down m k =
    let e = parted m (10 ^ k) in
    omega arith

pub units_up : (m k : ℕ) → units true m k ≡ m / 2 ^ 64 * 10 ^ k + div_ceil (m % 2 ^ 64 * 10 ^ k) (2 ^ 64)
unfolding units
units_up m k =
    let e = parted m (10 ^ k) in
    omega arith

pub whole_of : (w f t n : ℕ) → 0 < t → n ≡ w * t + f → w + f / t ≡ n / t
whole_of w f t n some e = rw e (sym (mul-add-div_right some w f))

pub rest_of : (w f t n : ℕ) → n ≡ w * t + f → f % t ≡ n % t
rest_of w f t n e = rw e (sym (mul-add-mod_self_right w t f))

-- ---- with a sign

ceil_pos : (x : ℕ) → ceil_div (pos x) (2 ^ 64) ≡ pos (div_ceil x (2 ^ 64))
ceil_pos zero = refl
ceil_pos (suc x) = ap pos (omega arith)

floor_neg : (x : ℕ) → 0 < x → floor_div (neg_ℤ (pos x)) (2 ^ 64) ≡ neg_ℤ (pos (div_ceil x (2 ^ 64)))
floor_neg zero some = absurd (omega arith)
floor_neg (suc x) some =
    let e : div_ceil (suc x) (2 ^ 64) ≡ suc (x / 2 ^ 64) = omega arith in
    rw e refl

signed_text : (q k : ℕ) → written (true && not (q == 0)) (q / 10 ^ k) (q % 10 ^ k) k ≡ fixed_text (neg_ℤ (pos q)) k
signed_text zero k = refl
signed_text (suc q) k = let some : (suc q == 0) ≡ false = grind (arith, nat_tests) in rw some refl

pos_times : (a t : ℕ) → pos a *ℤ pos t ≡ pos (a * t)
pos_times a t = omega (arith, ints)

neg_times : (a t : ℕ) → negsuc a *ℤ pos t ≡ neg_ℤ (pos (suc a * t))
neg_times a t = omega (arith, ints)

neg_twice : (n : ℕ) → neg_ℤ (neg_ℤ (pos n)) ≡ pos n
neg_twice zero = refl
neg_twice (suc n) = refl

abbrev RoundedText : Bool → Bool → ℕ → ℕ → List ℕ
RoundedText negative up m k = let n = units up m k in written (negative && not (n == 0)) (n / 10 ^ k) (n % 10 ^ k) k

pub up_below : (v : ℤ) (k : ℕ) → v <ℤ pos 0 → RoundedText true false (unsigned_abs v) k ≡ up_text v k
unfolding units up_text
up_below (pos a) k below = absurd (omega (arith, ints))
up_below (negsuc a) k below =
    rw (neg_times a (10 ^ k), neg_twice (suc a * 10 ^ k)) (signed_text (suc a * 10 ^ k / 2 ^ 64) k)

pub up_above : (v : ℤ) (k : ℕ) → pos 0 ≤ℤ v → RoundedText false true (unsigned_abs v) k ≡ up_text v k
unfolding units up_text
up_above (pos a) k above = rw (pos_times a (10 ^ k), ceil_pos (a * 10 ^ k)) refl
up_above (negsuc a) k above = absurd (omega (arith, ints))

pub down_below : (v : ℤ) (k : ℕ) → v <ℤ pos 0 → RoundedText true true (unsigned_abs v) k ≡ down_text v k
unfolding units down_text
down_below (pos a) k below = absurd (omega (arith, ints))
down_below (negsuc a) k below =
    let ten = ten_some k in
    let some : 0 < suc a * 10 ^ k = grind arith in
    rw (neg_times a (10 ^ k), floor_neg (suc a * 10 ^ k) some) (signed_text (div_ceil (suc a * 10 ^ k) (2 ^ 64)) k)

pub down_above : (v : ℤ) (k : ℕ) → pos 0 ≤ℤ v → RoundedText false false (unsigned_abs v) k ≡ down_text v k
unfolding units down_text
down_above (pos a) k above = refl
down_above (negsuc a) k above = absurd (omega (arith, ints))
