-- Step-down over intervals: from numerator b and denominator a, whose first coefficient is 1, to a lattice
-- with the same transfer function. Of order i, a has a_1 to a_i behind the leading 1, and b has b_0 to b_i.
use Rattle.std.specs.Prelude.{ℕ, zero, suc, ◌+◌, ◌-◌, max, Bool, true, false, List, [], ◌∷◌, ◌++◌, length}
use Rattle.std.specs.Prelude.{Option, Some, option_and_then, Result, Ok}
use Rattle.fx_math.specs.Faults.{◌>>=◌, or_fault, unless}
use Rattle.fx_nums.specs.Fraction.{Fraction, den_value}
use Rattle.fx_nums.specs.Interval.{Interval, enclosure}
use Rattle.fx_sif.specs.Entries.{coefficient}
use Rattle.fx_lattice.specs.Lattice.{Lattice, at}
use Rattle.fx_lattice.specs.Operations.{is_below_one, less_product, one_point, quotient}
use Rattle.fx_lattice.specs.declared.refusal.Step.{Step}
use Rattle.fx_lattice.specs.declared.refusal.Step.TheVariants.{NotBelowOne, Range, NoMemory}

-- ---- lists by their places

-- f 0, f 1, .., f (n - 1)
abbrev pub listed : ℕ → (ℕ → Interval) → List Interval
listed zero f = []
listed (suc n) f = listed n f ++ f n ∷ []

-- the same, where there is each
abbrev pub gathered : ℕ → (ℕ → Option Interval) → Option (List Interval)
gathered zero f = Some []
gathered (suc n) f = option_and_then (λ xs. option_and_then (λ x. Some (xs ++ x ∷ [])) (f n)) (gathered n f)

-- a_j, for j from 1 on
abbrev pub behind : List Interval → ℕ → Interval
behind a j = at a (j - 1)

-- ---- one step, from order i to i - 1

-- (a_j - k_i a_(i-j)) / (1 - k_i^2), where k_i is a_i and the divisor is d
unfoldable pub lower_a : ℕ → List Interval → Interval → ℕ → Option Interval
lower_a i a d j =
    option_and_then (λ n. quotient n d) (less_product (behind a j) (behind a i) (behind a (i - j)))

-- for j from 1 to i - 1
unfoldable pub lower_denominator : ℕ → List Interval → Option (List Interval)
lower_denominator i a =
    option_and_then (λ d. gathered (i - 1) (λ p. lower_a i a d (p + 1)))
    (less_product one_point (behind a i) (behind a i))

-- b_j - v_i a_(i-j), where v_i is b_i
unfoldable pub lower_b : ℕ → List Interval → List Interval → ℕ → Option Interval
lower_b i a b j = less_product (at b j) (at b i) (behind a (i - j))

-- for j from 0 to i - 1
unfoldable pub lower_numerator : ℕ → List Interval → List Interval → Option (List Interval)
lower_numerator i a b = gathered i (lower_b i a b)

-- ---- all steps

-- k_i and v_i behind those of the lower orders
abbrev pub with_rung : Interval → Interval → Lattice → Lattice
with_rung k v l = record { k = l.k ++ k ∷ []; v = l.v ++ v ∷ [] }

-- from order i down to 0: k_i is a_i and v_i is b_i
abbrev pub down : ℕ → List Interval → List Interval → Result Lattice Step
down zero a b = Ok (record { k = []; v = at b 0 ∷ [] })
down (suc m) a b =
    let i = suc m in
    unless (NotBelowOne i (behind a i)) (is_below_one (behind a i)) >>= λ below_one.
    or_fault (Range i) (lower_denominator i a) >>= λ lower.
    or_fault (Range i) (lower_numerator i a b) >>= λ upper.
    down m lower upper >>= λ l.
    Ok (with_rung (behind a i) (at b i) l)

-- ---- a transfer function

abbrev pub enclosed : Fraction → Interval
enclosed c = enclosure c.num (den_value c.den)

-- the greater order of numerator and denominator
abbrev pub greater_order : List Fraction → List Fraction → ℕ
greater_order b a = max (length b) (length a) - 1

-- coefficients from one on, so many
abbrev pub enclosures : List Fraction → ℕ → ℕ → List Interval
enclosures cs first count = listed count (λ j. enclosed (coefficient cs (j + first)))

abbrev pub step_down : List Fraction → List Fraction → Result Lattice Step
step_down b a =
    let n = greater_order b a in
    down n (enclosures a 1 n) (enclosures b 0 (n + 1))

-- ---- an answer

-- the one refusal that is not told
abbrev pub is_memory : Step → Bool
is_memory NoMemory = true
is_memory (NotBelowOne i k) = false
is_memory (Range i) = false
