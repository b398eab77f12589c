-- The lattice structure of N reflection coefficients k_1 to k_N and N + 1 taps v_0 to v_N: its counts, and
-- its entries row after row. f_N is the input and g_0 is f_0; where N = 0 both are the input, and there is
-- only y = v_0 u.
use Rattle.std.specs.Prelude.{ℕ, zero, suc, ◌+◌, ◌-◌, ◌*◌, List, [], ◌∷◌, ◌++◌, length}
use Rattle.fx_math.specs.Sums.{joined}
use Rattle.fx_nums.specs.Fraction.{Fraction, minus, one_fraction}
use Rattle.fx_sif.specs.Entries.{across, coefficient, entry}
use Rattle.fx_sif.specs.Implicit.{Implicit, single}
use Rattle.fx_sif.specs.declared.parts.Block.TheVariants.{J, K, L, M, N, S}
use Rattle.fx_sif.specs.declared.parts.Entry.{Entry}

-- ---- f_(N-1), .., f_0: row r is f_i = f_(i+1) - k_(i+1) x_i, for i = N - 1 - r

-- the first takes the input, each further one the row before it
abbrev pub from_above : ℕ → Entry
from_above zero = entry N 0 0 one_fraction
from_above (suc r) = entry J (suc r) r (minus one_fraction)

abbrev pub forward_row : List Fraction → ℕ → List Entry
forward_row k r =
    let i = length k - 1 - r in
    from_above r ∷ entry M r i (minus (coefficient k i)) ∷ []

-- ---- g_1, .., g_N: row N + i is g_(i+1) = k_(i+1) f_i + x_i

abbrev pub backward_row : List Fraction → ℕ → List Entry
backward_row k i =
    let n = length k in
    entry J (n + i) (n - 1 - i) (minus (coefficient k i)) ∷ entry M (n + i) i one_fraction ∷ []

-- ---- the states: x_i' = g_i, for i from 0 to N - 1

abbrev pub state_row : ℕ → ℕ → List Entry
state_row n i = entry K i (n - 1 + i) one_fraction ∷ []

-- ---- the output: y = v_0 g_0 + .. + v_N g_N

abbrev pub output_row : ℕ → List Fraction → List Entry
output_row zero v = across S 0 0 v
output_row (suc m) v = across L 0 m v

-- ---- the form

abbrev pub ladder_entries : List Fraction → List Fraction → List Entry
ladder_entries k v =
    let n = length k in
    joined n (forward_row k) ++ joined n (backward_row k) ++ joined n (state_row n) ++ output_row n v

abbrev pub ladder_form : List Fraction → List Fraction → Implicit
ladder_form k v =
    let n = length k in
    record { sizes = single (2 * n) n; entries = ladder_entries k v }
