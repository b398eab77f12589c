-- The equations of the four forms of a filter: the terms in the order written, coefficients 0 among them, and the
-- system of those that are kept.
use Rattle.std.specs.Prelude.{ℕ, zero, suc, ◌+◌, ◌-◌, ◌*◌, ◌/◌, ◌==◌, if◌then◌else◌, List, [], ◌∷◌, ◌++◌}
use Rattle.std.specs.Prelude.{length, map, take, drop}
use Rattle.fx_nums.specs.Fraction.{Fraction, one_fraction, minus}
use Rattle.fx_eqs.specs.Equations.{Equations, kept}
use Rattle.fx_eqs.specs.declared.term.Source.{Source}
use Rattle.fx_eqs.specs.declared.term.Source.TheVariants.{Row, In}
use Rattle.fx_eqs.specs.declared.term.Term.{Term}

-- a row's term: a coefficient times a source at a lag
abbrev pub summand : ℕ → Fraction → Source → ℕ → Term
summand row c from lag = record { row = row; coef = c; from = from; lag = lag }

-- coefficients times one source, at this lag and the next ones
abbrev pub over_lags : ℕ → Source → ℕ → List Fraction → List Term
over_lags row from lag [] = []
over_lags row from lag (c ∷ cs) = summand row c from lag ∷ over_lags row from (lag + 1) cs

-- coefficients times one source each, of this number and the next ones, at one lag
abbrev pub over_sources : ℕ → (ℕ → Source) → ℕ → ℕ → List Fraction → List Term
over_sources row from lag j [] = []
over_sources row from lag j (c ∷ cs) = summand row c (from j) lag ∷ over_sources row from lag (j + 1) cs

-- y(k) = b0 x(k) + b1 x(k-1) + .. - a1 y(k-1) - a2 y(k-2) - ..
abbrev pub recursion : ℕ → Source → List Fraction → List Fraction → List Term
recursion row x b a = over_lags row x 0 b ++ over_lags row (Row row) 1 (map minus (drop 1 a))

-- ---- transfer function: numerator b and denominator a, whose first entry is 1

abbrev pub tf_terms : List Fraction → List Fraction → List Term
tf_terms b a = recursion 0 (In 0) b a

abbrev pub tf_equations : List Fraction → List Fraction → Equations
tf_equations b a = record { rows = 1; inputs = 1; terms = kept (tf_terms b a); outputs = 0 ∷ [] }

-- ---- second-order sections: six coefficients b0 b1 b2 a0 a1 a2 each, a0 being 1; each section reads the one before it

abbrev pub sections : ℕ → ℕ → Source → List Fraction → List Term
sections zero row from cs = []
sections (suc count) row from cs =
    recursion row from (take 3 cs) (take 3 (drop 3 cs)) ++ sections count (row + 1) (Row row) (drop 6 cs)

abbrev pub sos_terms : List Fraction → List Term
sos_terms cs = sections (length cs / 6) 0 (In 0) cs

-- the last section's row is put out
abbrev pub sos_equations : List Fraction → Equations
sos_equations cs =
    let count = length cs / 6 in
    record { rows = count; inputs = 1; terms = kept (sos_terms cs); outputs = (count - 1) ∷ [] }

-- ---- state space: n states, m inputs, p outputs; A, B, C, D row after row

-- so many rows of two matrices, the one over the states of the moment before, the other over the inputs
abbrev pub matrix_rows : ℕ → ℕ → ℕ → ℕ → List Fraction → List Fraction → List Term
matrix_rows zero row n m x u = []
matrix_rows (suc count) row n m x u =
    over_sources row (λ j. Row j) 1 0 (take n x) ++ over_sources row (λ j.
    In j) 0 0 (take m u) ++ matrix_rows count (row + 1) n m (drop n x) (drop m u)

-- n, n + 1, .., so many
abbrev pub up_from : ℕ → ℕ → List ℕ
up_from n zero = []
up_from n (suc count) = n ∷ up_from (n + 1) count

-- the rows of the states, which hold the next moment's, and then those of the outputs
abbrev pub ss_terms : ℕ → ℕ → ℕ → List Fraction → List Fraction → List Fraction → List Fraction → List Term
ss_terms n m p A B C D = matrix_rows n 0 n m A B ++ matrix_rows p n n m C D

abbrev pub ss_equations : ℕ → ℕ → ℕ → List Fraction → List Fraction → List Fraction → List Fraction → Equations
ss_equations n m p A B C D =
    record { rows = n + p; inputs = m; terms = kept (ss_terms n m p A B C D); outputs = up_from n p }

-- ---- lattice: N reflection coefficients k1 .. kN and N + 1 taps v0 .. vN

-- f_i: the input where i = N, else the row N - 1 - i
abbrev pub forward : ℕ → ℕ → Source
forward n i = if i == n then In 0 else Row (n - 1 - i)

-- g_i: the row N - 1 + i, where g_0 is f_0; the input where N = 0
abbrev pub backward : ℕ → ℕ → Source
backward n i = if n == 0 then In 0 else Row (n - 1 + i)

-- f_i(k) = f_(i+1)(k) - k_(i+1) g_i(k-1), from i = N - 1 down
abbrev pub forward_rows : ℕ → ℕ → List Fraction → List Term
forward_rows n i [] = []
forward_rows n i (c ∷ cs) =
    forward_rows n (i + 1) cs ++ summand (n - 1 - i) one_fraction (forward n (i + 1)) 0 ∷ summand (n - 1 - i)
    (minus c) (backward n i) 1 ∷ []

-- g_(i+1)(k) = k_(i+1) f_i(k) + g_i(k-1), from i = 0 up
abbrev pub backward_rows : ℕ → ℕ → List Fraction → List Term
backward_rows n i [] = []
backward_rows n i (c ∷ cs) =
    summand (n + i) c (forward n i) 0 ∷ summand (n + i) one_fraction (backward n i) 1 ∷ backward_rows n (i + 1) cs

-- and y(k) = v0 g_0(k) + v1 g_1(k) + .. + vN g_N(k)
abbrev pub lattice_terms : List Fraction → List Fraction → List Term
lattice_terms k v =
    let n = length k in
    forward_rows n 0 k ++ backward_rows n 0 k ++ over_sources (2 * n) (backward n) 0 0 v

-- the last row is put out
abbrev pub lattice_equations : List Fraction → List Fraction → Equations
lattice_equations k v =
    let n = 2 * length k in
    record { rows = n + 1; inputs = 1; terms = kept (lattice_terms k v); outputs = n ∷ [] }
