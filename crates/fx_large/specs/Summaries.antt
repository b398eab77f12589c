-- What is told of many words.
use Rattle.std.specs.Prelude.{ℕ, zero, suc, ℤ, int_lt, if◌then◌else◌}
use Rattle.fx_math.specs.Sums.{total}
use Rattle.fx_large.specs.declared.summary.Summary.{Summary}

-- the least of f 0, .., f n
abbrev pub least_to : ℕ → (ℕ → ℤ) → ℤ
least_to zero f = f 0
least_to (suc n) f = if int_lt (f (suc n)) (least_to n f) then f (suc n) else least_to n f

-- the greatest of f 0, .., f n
abbrev pub greatest_to : ℕ → (ℕ → ℤ) → ℤ
greatest_to zero f = f 0
greatest_to (suc n) f = if int_lt (greatest_to n f) (f (suc n)) then f (suc n) else greatest_to n f

-- the least, the greatest and the sum of f 0, .., f n
abbrev pub summary_to : ℕ → (ℕ → ℤ) → Summary
summary_to n f = record { least = least_to n f; greatest = greatest_to n f; sum = total (suc n) f }
