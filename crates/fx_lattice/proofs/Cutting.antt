-- Numbers divided and cut towards zero.
use Rattle.std.proofs.Common.{◌≡◌, ℕ, ◌*◌, ◌/◌, ◌^◌, ◌<◌, refl, arith, ℤ, pos, negsuc, neg_ℤ, ◌<ℤ◌, ◌≤ℤ◌, unsigned_abs}
use Rattle.std.proofs.Math.Nat.{div-lt_iff_lt-mul, one-le-pow}
use Rattle.std.proofs.lemmas.Int.{ints}
use Rattle.fx_lattice.specs.Lattice.{cut}

pub quotient_below : (m b : ℕ) → m < 2 ^ 62 * 2 ^ b → m / 2 ^ b < 2 ^ 62
quotient_below m b h = let some : 0 < 2 ^ b = one-le-pow b 2 (omega arith) in (div-lt_iff_lt-mul some).1 h

pub cut_negative : (z : ℤ) (n : ℕ) → z <ℤ pos 0 → cut z n ≡ neg_ℤ (pos (unsigned_abs z / n))
cut_negative (pos m) n h = absurd (omega (arith, ints))
cut_negative (negsuc m) n h = refl

pub cut_positive : (z : ℤ) (n : ℕ) → pos 0 ≤ℤ z → cut z n ≡ pos (unsigned_abs z / n)
cut_positive (pos m) n h = refl
cut_positive (negsuc m) n h = absurd (omega (arith, ints))
