-- Step-down over exact values, and what the enclosures of a lattice enclose.
use Rattle.std.specs.Prelude.{◌≡◌, ℕ, zero, suc, ◌+◌, ◌-◌, ◌<◌, ◌≤◌, pos, List, Option, Some, option_and_then}
use Rattle.fx_math.specs.Ratio.{difference_of, product_of, Ratio, SameValue, whole}
use Rattle.fx_nums.specs.Enclosing.{Encloses}
use Rattle.fx_nums.specs.Fraction.{Fraction, value_of}
use Rattle.fx_nums.specs.Interval.{Interval}
use Rattle.fx_sif.specs.Entries.{coefficient}
use Rattle.fx_lattice.specs.Lattice.{Lattice, at, reflection, tap}
use Rattle.fx_lattice.specs.StepDown.{behind, enclosures, greater_order, lower_denominator}
use Rattle.fx_lattice.specs.StepDown.{lower_numerator}

-- 1 - k^2
abbrev pub one_less_square : Ratio → Ratio
one_less_square k = difference_of (whole (pos 1)) (product_of k k)

-- Coefficient j of order i is p i j in the denominator and q i j in the numerator; the denominator's first is
-- 1. Of order n they are those of the transfer function. Of order i, k_i is the denominator's last and v_i the
-- numerator's last. Those of order i - 1 are p_(i-1)_j = (p_i_j - k_i p_i_(i-j)) / (1 - k_i^2) and
-- q_(i-1)_j = q_i_j - v_i p_i_(i-j).
pub record MeetsStepDown (b a : List Fraction) (n : ℕ) (p q : ℕ → ℕ → Ratio) (k v : ℕ → Ratio) : Type 0 where
  pub p_over : (i j : ℕ) → 0 < (p i j).den
  pub q_over : (i j : ℕ) → 0 < (q i j).den
  pub k_over : (i : ℕ) → 0 < (k i).den
  pub v_over : (i : ℕ) → 0 < (v i).den
  pub p_highest : (j : ℕ) → 1 ≤ j → j ≤ n → SameValue (p n j) (value_of (coefficient a j))
  pub q_highest : (j : ℕ) → j ≤ n → SameValue (q n j) (value_of (coefficient b j))
  pub k_last : (i : ℕ) → 1 ≤ i → i ≤ n → SameValue (k i) (p i i)
  pub v_last : (i : ℕ) → i ≤ n → SameValue (v i) (q i i)
  pub p_lower : (i j : ℕ) → 1 ≤ j → j < i → i ≤ n →
      SameValue (product_of (p (i - 1) j) (one_less_square (k i)))
      (difference_of (p i j) (product_of (k i) (p i (i - j))))
  pub q_lower : (i j : ℕ) → j < i → i ≤ n →
      SameValue (q (i - 1) j) (difference_of (q i j) (product_of (v i) (p i (i - j))))

-- each value lies in its interval
pub record EnclosesLattice (n : ℕ) (l : Lattice) (k v : ℕ → Ratio) : Type 0 where
  pub reflections : (i : ℕ) → 1 ≤ i → i ≤ n → Encloses (reflection l i) (k i)
  pub taps : (i : ℕ) → i ≤ n → Encloses (tap l i) (v i)

-- whatever values meet step-down exactly, the lattice encloses them
abbrev pub EnclosesExact : List Fraction → List Fraction → Lattice → Type 0
EnclosesExact b a l =
    let n = greater_order b a in
    (p q : ℕ → ℕ → Ratio) (k v : ℕ → Ratio) → MeetsStepDown b a n p q k v → EnclosesLattice n l k v

-- ---- order by order

-- a_1 to a_i and b_0 to b_i, enclosed
pub record Enclosures : Type 0 where
  pub a : List Interval
  pub b : List Interval

-- those of order i - 1, where all are in range
abbrev pub below : ℕ → Enclosures → Option Enclosures
below i e =
    option_and_then (λ a. option_and_then (λ b. Some (record { a = a; b = b })) (lower_numerator i e.a e.b))
    (lower_denominator i e.a)

-- those of a transfer function, so many orders down from its own
abbrev pub orders_down : List Fraction → List Fraction → ℕ → Option Enclosures
orders_down b a zero =
    let n = greater_order b a in
    Some (record { a = enclosures a 1 n; b = enclosures b 0 (n + 1) })
orders_down b a (suc m) = option_and_then (below (greater_order b a - m)) (orders_down b a m)

-- each coefficient of order i lies in its interval
pub record EnclosesOrder (i : ℕ) (a b : List Interval) (p q : ℕ → Ratio) : Type 0 where
  pub denominator : (j : ℕ) → 1 ≤ j → j ≤ i → Encloses (behind a j) (p j)
  pub numerator : (j : ℕ) → j ≤ i → Encloses (at b j) (q j)

-- whatever values meet step-down exactly, each order encloses them
abbrev pub OrdersEnclose : Type 0
OrdersEnclose =
    (b a : List Fraction) (p q : ℕ → ℕ → Ratio) (k v : ℕ → Ratio) (m : ℕ) (e : Enclosures) →
    let n = greater_order b a in
    MeetsStepDown b a n p q k v → m ≤ n → orders_down b a m ≡ Some e →
    EnclosesOrder (n - m) e.a e.b (p (n - m)) (q (n - m))
