-- How far off a row may be that drops low places: at most half a place where half of one was added, else less than one.
use Rattle.std.proofs.Common.{◌≡◌, ℕ, zero, suc, ◌*◌, ◌^◌, ◌≤◌, arith, subst, sym, eqb, false}
use Rattle.std.proofs.Math.IntN.{ℤ, pos, ◌+ℤ◌, ◌-ℤ◌, ◌*ℤ◌}
use Rattle.std.specs.Prelude.{unsigned_abs}
use Rattle.std.proofs.lemmas.Int.{ints}
use Rattle.std.proofs.lemmas.Bool.{ne_eqb, cond-false}
use Rattle.std.proofs.lemmas.Nat.{pow_pos}
use Rattle.std.proofs.Math.Nat.{pow-succ'}
use Rattle.fx_math.specs.Division.{floor_div}
use Rattle.fx_math.proofs.Division.{floor_below, floor_above}
use Rattle.fx_math.proofs.Ring.{mul_comm}
use Rattle.fx_eqs.specs.declared.mode.Mode.{Mode}
use Rattle.fx_eqs.specs.declared.mode.Mode.TheVariants.{Nearest, Floor}
use Rattle.fx_code.specs.Code.{constant_in}
use Rattle.fx_code.specs.NetRows.{halves_of, class_in}

within_half : (r : ℕ) (a : ℤ) →
    2 * unsigned_abs (pos (2 ^ suc r) *ℤ floor_div (pos (2 ^ r) +ℤ a) (2 ^ suc r) -ℤ a) ≤ 1 * 2 ^ suc r
within_half r a =
    let y : ℤ = floor_div (pos (2 ^ r) +ℤ a) (2 ^ suc r) in
    let low = floor_below (pos (2 ^ r) +ℤ a) (2 ^ suc r) (pow_pos (suc r)) in
    let high = floor_above (pos (2 ^ r) +ℤ a) (2 ^ suc r) (pow_pos (suc r)) in
    let e : 2 ^ suc r ≡ 2 * 2 ^ r = pow-succ' 2 r in
    let turned : pos (2 ^ suc r) *ℤ y ≡ y *ℤ pos (2 ^ suc r) = mul_comm (pos (2 ^ suc r)) y in
    omega (arith, ints)

within_place : (r : ℕ) (a : ℤ) →
    2 * unsigned_abs (pos (2 ^ r) *ℤ floor_div (pos 0 +ℤ a) (2 ^ r) -ℤ a) ≤ 2 * 2 ^ r
within_place r a =
    let y : ℤ = floor_div (pos 0 +ℤ a) (2 ^ r) in
    let low = floor_below (pos 0 +ℤ a) (2 ^ r) (pow_pos r) in
    let high = floor_above (pos 0 +ℤ a) (2 ^ r) (pow_pos r) in
    let turned : pos (2 ^ r) *ℤ y ≡ y *ℤ pos (2 ^ r) = mul_comm (pos (2 ^ r)) y in
    omega (arith, ints)

nothing_dropped : (a : ℤ) → 2 * unsigned_abs (pos (2 ^ 0) *ℤ floor_div (pos 0 +ℤ a) (2 ^ 0) -ℤ a) ≤ 0 * 2 ^ 0
nothing_dropped a =
    let low = floor_below (pos 0 +ℤ a) 1 (omega arith) in
    let high = floor_above (pos 0 +ℤ a) 1 (omega arith) in
    omega (arith, ints)

class_suc : (mode : Mode) (r : ℕ) → class_in mode (suc r) ≡ halves_of mode
class_suc mode r =
    let shifted : eqb (suc r) 0 ≡ false = ne_eqb (suc r) 0 (λ e. omega arith) in cond-false _ _ _ shifted

-- 2 ^ r times the floor, against the sum without its constant
pub class_at : (mode : Mode) (r : ℕ) (a : ℤ) →
    2 * unsigned_abs (pos (2 ^ r) *ℤ floor_div (pos (constant_in mode r) +ℤ a) (2 ^ r) -ℤ a) ≤ class_in mode r * 2 ^ r
class_at Nearest zero a = nothing_dropped a
class_at Floor zero a = nothing_dropped a
class_at Nearest (suc r) a =
    subst (λ n. 2 * unsigned_abs (pos (2 ^ suc r) *ℤ floor_div (pos (2 ^ r) +ℤ a) (2 ^ suc r) -ℤ a) ≤ n * 2 ^ suc r)
    (sym (class_suc Nearest r)) (within_half r a)
class_at Floor (suc r) a =
    subst (λ n. 2 * unsigned_abs (pos (2 ^ suc r) *ℤ floor_div (pos 0 +ℤ a) (2 ^ suc r) -ℤ a) ≤ n * 2 ^ suc r)
    (sym (class_suc Floor r)) (within_place (suc r) a)
