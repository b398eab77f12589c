-- Residues of w bits: in range, congruent, and what fits is its own.
use Rattle.std.proofs.Common.{◌≡◌, ℕ, zero, suc, ◌*◌, ◌-◌, ◌^◌, ◌<◌, ◌≤◌, arith, refl, ap, ◌∙◌}
use Rattle.std.proofs.Math.IntN.{ℤ, pos, negsuc, ◌+ℤ◌, ◌-ℤ◌, ◌*ℤ◌, neg_ℤ}
use Rattle.std.specs.Int.Signed.{◌≤ℤ◌, ◌<ℤ◌}
use Rattle.std.specs.Prelude.{unsigned_abs}
use Rattle.std.specs.Int.{int_rem_euclid}
use Rattle.std.proofs.lemmas.Int.{ints}
use Rattle.std.proofs.Math.Nat.{pow-succ', mod-eq_of_lt}
use Rattle.std.proofs.lemmas.Nat.{div-add-mod', mod_below, pow_pos}
use Rattle.fx_math.specs.Division.{floor_div}
use Rattle.fx_math.specs.Residue.{wrap, FitsBits}
use Rattle.fx_math.specs.Laws.{ResidueRange, ResidueCongruence}

-- h is half of m
wrap_at : (z : ℤ) (h m : ℕ) → m ≡ 2 * h → neg_ℤ (pos h) ≤ℤ z → z <ℤ pos h →
    int_rem_euclid (z +ℤ pos h) (pos m) -ℤ pos h ≡ z
wrap_at z h m e low high = go (z +ℤ pos h) refl
  where
    go : (y : ℤ) → z +ℤ pos h ≡ y → int_rem_euclid (z +ℤ pos h) (pos m) -ℤ pos h ≡ z
    go (pos n) f =
        let l : n < m = omega (arith, ints, e, f) in
        let g : int_rem_euclid (z +ℤ pos h) (pos m) ≡ pos n =
        ap (λ y. int_rem_euclid y (pos m)) f ∙ ap pos (mod-eq_of_lt l) in
        omega (arith, ints, g, f)
    go (negsuc n) f = absurd (omega (arith, ints, f))

pub wrap_fits : (w : ℕ) (z : ℤ) → 0 < w → FitsBits w z → wrap w z ≡ z
unfolding wrap
wrap_fits zero z h f = absurd (omega arith)
wrap_fits (suc w) z h f =
    wrap_at z (2 ^ (suc w - 1)) (2 ^ suc w) (pow-succ' 2 w ∙ ap (λ n. 2 * 2 ^ n) (omega arith)) f.low f.high

-- a magnitude within x fits where x does
pub small_fits : (w x : ℕ) (y : ℤ) → unsigned_abs y ≤ x → x < 2 ^ (w - 1) → FitsBits w y
small_fits w x (pos y) b l = record { low = omega (arith, ints); high = omega (arith, ints) }
small_fits w x (negsuc y) b l = record { low = omega (arith, ints); high = omega (arith, ints) }

-- ---- any number

-- the quotient and the rest
rest_of : (y : ℤ) (m : ℕ) → 0 < m → floor_div y m *ℤ pos m +ℤ int_rem_euclid y (pos m) ≡ y
rest_of (pos a) m h = omega (arith, ints, div-add-mod' a m)
rest_of (negsuc a) m h = omega (arith, ints, div-add-mod' a m, mod_below a m h)

rest_low : (y : ℤ) (m : ℕ) → 0 < m → pos 0 ≤ℤ int_rem_euclid y (pos m)
rest_low (pos a) m h = omega (arith, ints)
rest_low (negsuc a) m h = omega (arith, ints)

rest_high : (y : ℤ) (m : ℕ) → 0 < m → int_rem_euclid y (pos m) <ℤ pos m
rest_high (pos a) m h = omega (arith, ints, mod_below a m h)
rest_high (negsuc a) m h = omega (arith, ints)

twice : (w : ℕ) → 2 ^ suc w ≡ 2 * 2 ^ (suc w - 1)
twice w = pow-succ' 2 w ∙ ap (λ n. 2 * 2 ^ n) (omega arith)

pub residue_range : ResidueRange
unfolding wrap
residue_range zero z h = absurd (omega arith)
residue_range (suc w) z h =
    let m : ℕ = 2 ^ suc w in
    let half : ℕ = 2 ^ (suc w - 1) in
    let e : m ≡ 2 * half = twice w in
    let some : 0 < m = pow_pos (suc w) in
    record {
      low = omega (arith, ints, rest_low (z +ℤ pos half) m some);
      high = omega (arith, ints, e, rest_high (z +ℤ pos half) m some);
    }

pub residue_congruence : ResidueCongruence
unfolding wrap
residue_congruence w z h =
    let half : ℕ = 2 ^ (w - 1) in
    let some : 0 < 2 ^ w = pow_pos w in
    omega (arith, ints, rest_of (z +ℤ pos half) (2 ^ w) some)
