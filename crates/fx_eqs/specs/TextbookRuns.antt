-- What the exact runs of the four forms meet, as a textbook prints it. All values are in input steps.
use Rattle.std.specs.Prelude.{◌≡◌, ℕ, zero, suc, ◌+◌, ◌*◌, ◌<◌, ◌≤◌, ℤ, pos, List, length, take, drop, slice_index_or}
use Rattle.fx_math.specs.Ratio.{difference_of, product_of, Ratio, SameValue, sum_of, whole}
use Rattle.fx_nums.specs.Fraction.{Fraction, value_of, zero_fraction}
use Rattle.fx_eqs.specs.Denominator.{DividesEach}
use Rattle.fx_eqs.specs.Equations.{Equations}
use Rattle.fx_eqs.specs.ExactRun.{row_value}
use Rattle.fx_eqs.specs.Textbook.{backward, forward, lattice_equations, sos_equations, ss_equations, tf_equations}
use Rattle.fx_eqs.specs.Values.{earlier, over_numbers, over_time}
use Rattle.fx_eqs.specs.declared.limits.TheConstants.{COEFFICIENTS, PORTS, REFLECTIONS, SECTIONS, STATES}
use Rattle.fx_eqs.specs.declared.term.Source.{Source}
use Rattle.fx_eqs.specs.declared.term.Source.TheVariants.{Row, In}

-- the values of a row in an exact run over the denominator g, which is positive, or of an input, moment by moment
abbrev pub source_values : Equations → ℕ → (ℕ → ℕ → ℤ) → Source → ℕ → Ratio
source_values s g u (Row i) k = row_value s g u k i
source_values s g u (In j) k = whole (u k j)

-- y(k) = b0 x(k) + b1 x(k-1) + .. - (a1 y(k-1) + a2 y(k-2) + ..)
abbrev pub MeetsRecursion : List Fraction → List Fraction → (ℕ → Ratio) → (ℕ → Ratio) → Type 0
MeetsRecursion b a x y = (k : ℕ) → SameValue (y k) (difference_of (over_time b x k 0) (over_time (drop 1 a) y k 1))

-- ---- transfer function

-- the row meets the recursion of numerator and denominator over the input
abbrev pub TransferRuns : Type 0
TransferRuns =
    (b a : List Fraction) (g : ℕ) (u : ℕ → ℕ → ℤ) → length b ≤ COEFFICIENTS → length a ≤ COEFFICIENTS →
    let s = tf_equations b a in
    DividesEach g s.terms → MeetsRecursion b a (source_values s g u (In 0)) (source_values s g u (Row 0))

-- ---- second-order sections

-- b0 b1 b2 of section i, and a0 a1 a2
abbrev pub numerator_of : List Fraction → ℕ → List Fraction
numerator_of cs i = take 3 (drop (6 * i) cs)

abbrev pub denominator_of : List Fraction → ℕ → List Fraction
denominator_of cs i = take 3 (drop (6 * i + 3) cs)

-- what section i reads: the input, or the section before it
abbrev pub section_source : ℕ → Source
section_source zero = In 0
section_source (suc i) = Row i

-- each section meets its recursion over what it reads
abbrev pub CascadeRuns : Type 0
CascadeRuns =
    (count : ℕ) (cs : List Fraction) (g : ℕ) (u : ℕ → ℕ → ℤ) → 1 ≤ count → count ≤ SECTIONS → length cs ≡ 6 * count →
    let s = sos_equations cs in
    DividesEach g s.terms → (i : ℕ) → i < count →
    MeetsRecursion (numerator_of cs i) (denominator_of cs i) (source_values s g u (section_source i))
    (source_values s g u (Row i))

-- ---- state space

-- row i of a matrix of so many columns
abbrev pub matrix_row : ℕ → List Fraction → ℕ → List Fraction
matrix_row columns entries i = take columns (drop (i * columns) entries)

-- x(k+1) = A x(k) + B u(k) and y(k) = C x(k) + D u(k), where x(0) is 0
pub record MeetsStateSpace (n m p : ℕ) (A B C D : List Fraction) (u x y : ℕ → ℕ → Ratio) : Type 0 where
  pub start : (i : ℕ) → i < n → x 0 i ≡ whole (pos 0)
  pub states : (k i : ℕ) → i < n →
      SameValue (x (suc k) i) (sum_of (over_numbers (matrix_row n A i) (x k) 0)
      (over_numbers (matrix_row m B i) (u k) 0))
  pub outputs : (k i : ℕ) → i < p →
      SameValue (y k i) (sum_of (over_numbers (matrix_row n C i) (x k) 0) (over_numbers (matrix_row m D i) (u k) 0))

-- row i holds state i of the next moment, and row n + i is output i
abbrev pub StateSpaceRuns : Type 0
StateSpaceRuns =
    (n m p : ℕ) (A B C D : List Fraction) (g : ℕ) (u : ℕ → ℕ → ℤ) →
    n ≤ STATES → 1 ≤ m → m ≤ PORTS → 1 ≤ p → p ≤ PORTS →
    let s = ss_equations n m p A B C D in
    DividesEach g s.terms →
    MeetsStateSpace n m p A B C D (λ k j. source_values s g u (In j) k) (λ k i.
    earlier (source_values s g u (Row i)) k 1)
    (λ k i. source_values s g u (Row (n + i)) k)

-- ---- lattice

-- reflection coefficient k_(i + 1)
abbrev pub reflection : List Fraction → ℕ → Fraction
reflection k i = slice_index_or k i zero_fraction

-- From the input f_N down to f_0, which is g_0, and back up to g_N:
-- f_i(k) = f_(i+1)(k) - k_(i+1) g_i(k-1) and g_(i+1)(k) = k_(i+1) f_i(k) + g_i(k-1); and y(k) = v0 g_0(k) + v1 g_1(k) +
-- .. .
pub record MeetsLattice (reflections taps : List Fraction) (x : ℕ → Ratio) (f g : ℕ → ℕ → Ratio) (y : ℕ →
    Ratio) : Type 0 where
  pub front : (k : ℕ) → f (length reflections) k ≡ x k
  pub back : (k : ℕ) → g 0 k ≡ f 0 k
  pub forward_rows : (k i : ℕ) → i < length reflections →
      SameValue (f i k) (difference_of (f (i + 1) k)
      (product_of (value_of (reflection reflections i)) (earlier (g i) k 1)))
  pub backward_rows : (k i : ℕ) → i < length reflections →
      SameValue (g (i + 1) k) (sum_of (product_of (value_of (reflection reflections i)) (f i k)) (earlier (g i) k 1))
  pub output : (k : ℕ) → SameValue (y k) (over_numbers taps (λ i. g i k) 0)

abbrev pub LatticeRuns : Type 0
LatticeRuns =
    (k v : List Fraction) (g : ℕ) (u : ℕ → ℕ → ℤ) → length k ≤ REFLECTIONS → length v ≡ length k + 1 →
    let s = lattice_equations k v in
    let n = length k in
    DividesEach g s.terms →
    MeetsLattice k v (source_values s g u (In 0)) (λ i. source_values s g u (forward n i)) (λ i.
    source_values s g u (backward n i))
    (source_values s g u (Row (2 * n)))
