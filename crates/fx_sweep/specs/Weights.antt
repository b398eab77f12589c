-- The sweep of a net backwards in time. Each row has an interval; the low end of a row's interval is its weight, which
-- its sources are handed: rows of the same moment at once, rows of the moment before in the next moment of the sweep.
use Rattle.std.specs.Prelude.{ℕ, zero, suc, nat_lt, cond}
use Rattle.fx_math.specs.Sums.{total}
use Rattle.fx_nums.specs.Arithmetic.{multiple}
use Rattle.fx_nums.specs.Fraction.{Fraction}
use Rattle.fx_nums.specs.Interval.{Interval, plus}
use Rattle.fx_net.specs.Net.{Net}

-- row i hands its weight to its sources of this moment
unfoldable pub hand_on : Net → ℕ → (ℕ → Interval) → ℕ → Interval
hand_on net i at j = cond (nat_lt j i) (plus (at j) (multiple (at i).lo (net.now i j))) (at j)

-- rows n - 1, .., 0 do so in turn
abbrev pub settle : Net → ℕ → (ℕ → Interval) → ℕ → Interval
settle net zero at = at
settle net (suc i) at = settle net i (hand_on net i at)

-- the sums of the first n intervals
abbrev pub sum_of : ℕ → (ℕ → Interval) → Interval
sum_of n f = record { lo = total n (λ i. (f i).lo); hi = total n (λ i. (f i).hi) }

-- what the weights of so many rows are for one source, of which they take these coefficients
abbrev pub taken : ℕ → (ℕ → Interval) → (ℕ → Fraction) → Interval
taken n at coefficients = sum_of n (λ i. multiple (at i).lo (coefficients i))

-- what the rows hand to row j of the moment before
unfoldable pub carry : Net → (ℕ → Interval) → ℕ → Interval
carry net at j = taken net.rows at (λ i. net.old i j)

-- and to input j
unfoldable pub to_input : Net → (ℕ → Interval) → ℕ → Interval
to_input net at j = taken net.rows at (λ i. net.input i j)

-- the intervals as moment n of the sweep begins, n moments before the last of the net's
abbrev pub carried : Net → (ℕ → Interval) → ℕ → ℕ → Interval
carried net start zero = start
carried net start (suc n) = carry net (settle net net.rows (carried net start n))

-- and those from which the weights of that moment come
abbrev pub settled : Net → (ℕ → Interval) → ℕ → ℕ → Interval
settled net start n = settle net net.rows (carried net start n)

-- the intervals of the inputs in that moment
abbrev pub inputs : Net → (ℕ → Interval) → ℕ → ℕ → Interval
inputs net start n = to_input net (settled net start n)
