-- The four direct forms of a filter with numerator b and denominator a, whose first entry is 1: their counts, and their
-- entries in the order written, row after row. Coefficients that are missing are 0.
use Rattle.std.specs.Prelude.{ℕ, ◌+◌, ◌-◌, max, nat_lt, cond, List, [], ◌∷◌, ◌++◌, length, map, drop}
use Rattle.fx_math.specs.Sums.{joined}
use Rattle.fx_nums.specs.Fraction.{Fraction, one_fraction, minus}
use Rattle.fx_sif.specs.Implicit.{Implicit, single}
use Rattle.fx_sif.specs.declared.parts.Block.{Block}
use Rattle.fx_sif.specs.declared.parts.Block.TheVariants.{K, L, M, N, P, Q, R, S}
use Rattle.fx_sif.specs.declared.parts.Entry.{Entry}
use Rattle.fx_sif.specs.Entries.{coefficient, entry, across, delays}

-- the first entry of a list is coefficient 0, so this many are behind it
abbrev pub order : List Fraction → ℕ
order cs = length cs - 1

-- a row over the numerator: its first coefficient in one block, the others in another
abbrev pub numerator_row : Block → Block → List Fraction → List Entry
numerator_row direct states b = entry direct 0 0 (coefficient b 0) ∷ across states 0 0 (drop 1 b)

-- ---- no t; p_1' = u, p_i' = p_(i-1); y = b_0 u + sum b_i p_i

abbrev pub fir_entries : List Fraction → List Entry
fir_entries b = delays Q 0 0 (order b) ++ (entry S 0 0 (coefficient b 0) ∷ across R 0 0 (drop 1 b))

abbrev pub fir_form : List Fraction → Implicit
fir_form b = record { sizes = single 0 (order b); entries = fir_entries b }

-- ---- t = b_0 u + sum b_i p_i - sum a_i q_i; p_1' = u, p_i' = p_(i-1); q_1' = t, q_i' = q_(i-1); y = t

abbrev pub df1_entries : List Fraction → List Fraction → List Entry
df1_entries b a =
    (entry N 0 0 (coefficient b 0) ∷ across M 0 0 (drop 1 b)) ++ across M 0 (order b) (map minus (drop 1 a))
    ++ delays Q 0 0 (order b) ++ delays K 0 (order b) (order a) ++ entry L 0 0 one_fraction ∷ []

abbrev pub df1_form : List Fraction → List Fraction → Implicit
df1_form b a = record { sizes = single 1 (order b + order a); entries = df1_entries b a }

-- ---- t = u - sum a_i x_i; x_1' = t, x_i' = x_(i-1); y = b_0 t + sum b_i x_i

abbrev pub df2_entries : List Fraction → List Fraction → List Entry
df2_entries b a =
    (entry N 0 0 one_fraction ∷ across M 0 0 (map minus (drop 1 a)))
    ++ delays K 0 0 (max (order b) (order a)) ++ (entry L 0 0 (coefficient b 0) ∷ across R 0 0 (drop 1 b))

abbrev pub df2_form : List Fraction → List Fraction → Implicit
df2_form b a = record { sizes = single 1 (max (order b) (order a)); entries = df2_entries b a }

-- ---- t = b_0 u + x_1; x_i' = x_(i+1) + b_i u - a_i t, the last without x_(i+1); y = t

-- state i of n, counted from 0
abbrev pub df2t_row : List Fraction → List Fraction → ℕ → ℕ → List Entry
df2t_row b a n i =
    cond (nat_lt (i + 1) n) (entry P i (i + 1) one_fraction ∷ []) []
    ++ entry Q i 0 (coefficient b (i + 1)) ∷ entry K i 0 (minus (coefficient a (i + 1))) ∷ []

-- the first state, where there is one
abbrev pub first_state : ℕ → List Entry
first_state n = cond (nat_lt 0 n) (entry M 0 0 one_fraction ∷ []) []

abbrev pub df2t_entries : List Fraction → List Fraction → List Entry
df2t_entries b a =
    let n = max (order b) (order a) in
    (entry N 0 0 (coefficient b 0) ∷ first_state n) ++ joined n (df2t_row b a n) ++ entry L 0 0 one_fraction ∷ []

abbrev pub df2t_form : List Fraction → List Fraction → Implicit
df2t_form b a = record { sizes = single 1 (max (order b) (order a)); entries = df2t_entries b a }
