-- Values as they come moment by moment.
use Rattle.std.specs.Prelude.{ℕ, zero, suc, ◌+◌, pos, List, [], ◌∷◌}
use Rattle.fx_math.specs.Ratio.{Ratio, product_of, sum_of, whole}
use Rattle.fx_nums.specs.Fraction.{Fraction, value_of}

-- the value l moments before moment k; what lies before moment 0 is 0
abbrev pub earlier : (ℕ → Ratio) → ℕ → ℕ → Ratio
earlier value k zero = value k
earlier value zero (suc l) = whole (pos 0)
earlier value (suc k) (suc l) = earlier value k l

-- c0 x(k - l) + c1 x(k - l - 1) + c2 x(k - l - 2) + ..
abbrev pub over_time : List Fraction → (ℕ → Ratio) → ℕ → ℕ → Ratio
over_time [] x k l = whole (pos 0)
over_time (c ∷ cs) x k l = sum_of (product_of (value_of c) (earlier x k l)) (over_time cs x k (l + 1))

-- c0 x j + c1 x (j + 1) + c2 x (j + 2) + ..
abbrev pub over_numbers : List Fraction → (ℕ → Ratio) → ℕ → Ratio
over_numbers [] x j = whole (pos 0)
over_numbers (c ∷ cs) x j = sum_of (product_of (value_of c) (x j)) (over_numbers cs x (j + 1))
