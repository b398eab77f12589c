-- Sums and lists over the first places.
use Rattle.std.specs.Prelude.{ℕ, zero, suc, ◌+◌, ℤ, pos, ◌+ℤ◌, List, [], ◌++◌}

-- f 0 + f 1 + .. + f (n - 1)
abbrev pub total : ℕ → (ℕ → ℤ) → ℤ
total zero f = pos 0
total (suc n) f = total n f +ℤ f n

-- the same of natural numbers
abbrev pub sum_below : ℕ → (ℕ → ℕ) → ℕ
sum_below zero f = 0
sum_below (suc n) f = sum_below n f + f n

-- f 0, f 1, .., f (n - 1) one behind the other
abbrev pub joined : {A : Type 0} → ℕ → (ℕ → List A) → List A
joined zero f = []
joined (suc n) f = joined n f ++ f n
