-- Whole numbers over a positive one, rounded down and up.
use Rattle.std.specs.Prelude.{ℕ, ℤ, pos, neg_ℤ}
use Rattle.std.specs.Int.{int_div_euclid}

-- the floor of z / n
abbrev pub floor_div : ℤ → ℕ → ℤ
floor_div z n = int_div_euclid z (pos n)

-- the ceiling of z / n
abbrev pub ceil_div : ℤ → ℕ → ℤ
ceil_div z n = neg_ℤ (floor_div (neg_ℤ z) n)
