-- Whole numbers over a positive one, as values, and their arithmetic.
use Rattle.std.specs.Prelude.{◌≡◌, ℕ, ◌*◌, ℤ, pos, ◌+ℤ◌, ◌-ℤ◌, ◌*ℤ◌}

-- num / den
pub record Ratio : Type 0 where
  pub num : ℤ
  pub den : ℕ

-- the same value, by cross-multiplication
abbrev pub SameValue : Ratio → Ratio → Type 0
SameValue a b = a.num *ℤ pos b.den ≡ b.num *ℤ pos a.den

-- a whole number
abbrev pub whole : ℤ → Ratio
whole z = record { num = z; den = 1 }

abbrev pub sum_of : Ratio → Ratio → Ratio
sum_of a b = record { num = a.num *ℤ pos b.den +ℤ b.num *ℤ pos a.den; den = a.den * b.den }

abbrev pub difference_of : Ratio → Ratio → Ratio
difference_of a b = record { num = a.num *ℤ pos b.den -ℤ b.num *ℤ pos a.den; den = a.den * b.den }

abbrev pub product_of : Ratio → Ratio → Ratio
product_of a b = record { num = a.num *ℤ b.num; den = a.den * b.den }
