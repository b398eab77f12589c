-- Numbers of w bits in two's complement.
use Rattle.std.specs.Prelude.{ℕ, ◌-◌, ◌^◌, ℤ, pos, neg_ℤ, ◌+ℤ◌, ◌-ℤ◌, ◌≤ℤ◌, ◌<ℤ◌}
use Rattle.std.specs.Int.{int_rem_euclid}

-- the number from -2 ^ (w - 1) to 2 ^ (w - 1) - 1 that is congruent to z modulo 2 ^ w
unfoldable pub wrap : ℕ → ℤ → ℤ
wrap w z = int_rem_euclid (z +ℤ pos (2 ^ (w - 1))) (pos (2 ^ w)) -ℤ pos (2 ^ (w - 1))

-- z is a number of w bits
pub record FitsBits (w : ℕ) (z : ℤ) : Type 0 where
  pub low : neg_ℤ (pos (2 ^ (w - 1))) ≤ℤ z
  pub high : z <ℤ pos (2 ^ (w - 1))
