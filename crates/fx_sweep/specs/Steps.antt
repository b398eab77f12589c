-- The parts of a moment, and the limits that a sweep keeps.
use Rattle.std.specs.Prelude.{◌≡◌, ◌≢◌, ℕ, ◌+◌, ◌-◌, ◌*◌, ◌^◌, ◌≤◌, nat_le, cond, ℤ, pos, ◌+ℤ◌, ◌≤ℤ◌, List}
use Rattle.std.specs.Prelude.{[], ◌∷◌, length, unsigned_abs, Option, Some, None, Result, Ok, Err, ◌*ℤ◌}
use Rattle.std.specs.Option.{option_or}
use Rattle.fx_math.specs.Sums.{joined}
use Rattle.fx_eqs.specs.declared.limits.TheConstants.{PORTS}
use Rattle.fx_nums.specs.Arithmetic.{multiple, width}
use Rattle.fx_nums.specs.Fraction.{Fraction}
use Rattle.fx_nums.specs.Interval.{Interval, plus, magnitude}
use Rattle.fx_nums.specs.declared.limits.TheConstants.{OPERAND_BITS, APART_BITS}
use Rattle.fx_net.specs.Net.{Net}
use Rattle.fx_sweep.specs.Range.{first_range}
use Rattle.fx_sweep.specs.Swept.{State, interval_in, whole_in, gain_in}
use Rattle.fx_sweep.specs.Weights.{carry, settle, to_input}
use Rattle.fx_sweep.specs.declared.limits.TheConstants.{GREATEST_LENGTH}
use Rattle.fx_sweep.specs.declared.numbers.Numbers.{Numbers}
use Rattle.fx_sweep.specs.declared.target.Place.{Place}
use Rattle.fx_sweep.specs.declared.target.Place.TheVariants.{Weight, Gain, Input, Rest}
use Rattle.fx_sweep.specs.declared.target.RangeAt.{RangeAt}

-- ---- weights handed on

-- each interval, with the multiple of a weight by its coefficient added
abbrev pub with_multiples : ℤ → (ℕ → Fraction) → (ℕ → Interval) → ℕ → Interval
with_multiples w coefficients at j = plus (at j) (multiple w (coefficients j))

-- both ends are at most a bound in magnitude, and at most so far apart
pub record IsNarrow (bound apart : ℕ) (i : Interval) : Type 0 where
  pub low : unsigned_abs i.lo ≤ bound
  pub high : unsigned_abs i.hi ≤ bound
  pub near : i.hi ≤ℤ (i.lo +ℤ pos apart)

abbrev pub AreNarrow : ℕ → ℕ → List Interval → Type 0
AreNarrow bound apart xs = (j : ℕ) → IsNarrow bound apart (interval_in xs j)

-- the ends of the product of a weight with a coefficient are at most so large
abbrev pub product_bound : ℕ
product_bound = 2 ^ 112

-- and these are at most so far apart
abbrev pub product_apart : ℕ
product_apart = 2 ^ APART_BITS

-- the greatest magnitude that is no range
abbrev pub greatest : ℕ
greatest = 2 ^ OPERAND_BITS - 1

-- what is carried to a row is a sum of at most 64 products, so it is at most so wide
abbrev pub carried_width : ℕ
carried_width = 64 * product_apart

-- and an interval of a row, with at most 64 products more, is at most so wide
abbrev pub greatest_width : ℕ
greatest_width = 2 ^ 64

-- ---- ranges

-- the number in a place, where a number reaches the limit
abbrev pub reached : Place → ℕ → Option RangeAt
reached p number = cond (nat_le (2 ^ OPERAND_BITS) number) (Some (record { place = p; value = pos number })) None

-- the numbers of rows, from their intervals and their gains before
abbrev pub row_value : (ℕ → Interval) → (ℕ → ℕ) → Place → ℕ
row_value at gains (Weight i) = magnitude (at i)
row_value at gains (Gain i) = gains i + unsigned_abs (at i).lo
row_value at gains (Input j) = 0
row_value at gains (Rest i) = 0

-- those of inputs
abbrev pub input_value : (ℕ → Interval) → (ℕ → ℕ) → Place → ℕ
input_value at gains (Weight i) = 0
input_value at gains (Gain i) = 0
input_value at gains (Input j) = gains j + magnitude (at j)
input_value at gains (Rest i) = 0

-- and those of what is carried
abbrev pub rest_value : (ℕ → Interval) → Place → ℕ
rest_value at (Weight i) = 0
rest_value at (Gain i) = 0
rest_value at (Input j) = 0
rest_value at (Rest i) = magnitude (at i)

-- the places of row i, of the k-th row from the last of n, of input j and of what is carried to row i
abbrev pub places_of_row : ℕ → List Place
places_of_row i = Weight i ∷ Gain i ∷ []

abbrev pub row_places : ℕ → ℕ → List Place
row_places n k = places_of_row (n - (k + 1))

abbrev pub input_places : ℕ → List Place
input_places j = Input j ∷ []

abbrev pub rest_places : ℕ → List Place
rest_places i = Rest i ∷ []

-- ---- rows

-- What row i adds: its weight to its sources of this moment, its width, and its gain, where neither reached the limit.
pub record IsRowAdded (i : ℕ) (coefficients : ℕ → Fraction) (at next : ℕ →
    Interval) (old_widths now_widths : ℕ → ℤ) (old_gains now_gains : ℕ → ℕ) : Type 0 where
  pub handed : next ≡ with_multiples (at i).lo coefficients at
  pub small : magnitude (at i) ≤ greatest
  pub width_here : now_widths i ≡ old_widths i +ℤ width (at i)
  pub widths_else : (k : ℕ) → k ≢ i → now_widths k ≡ old_widths k
  pub gain_here : now_gains i ≡ old_gains i + unsigned_abs (at i).lo
  pub gains_else : (k : ℕ) → k ≢ i → now_gains k ≡ old_gains k

-- ---- limits

abbrev pub GainsFit : List ℕ → Type 0
GainsFit xs = (i : ℕ) → gain_in xs i ≤ greatest

abbrev pub WidthsFit : ℕ → List ℤ → Type 0
WidthsFit bound xs = (i : ℕ) → (pos 0 ≤ℤ whole_in xs i) × (whole_in xs i ≤ℤ pos bound)

-- the intervals of rows are at most so wide
abbrev pub AreNear : List Interval → Type 0
AreNear xs = (i : ℕ) → (interval_in xs i).hi ≤ℤ ((interval_in xs i).lo +ℤ pos greatest_width)

-- n rows
pub record AreLong (n : ℕ) (s : Numbers) : Type 0 where
  pub carried_long : length s.carried.items ≡ n
  pub weights_long : length s.weights.items ≡ n
  pub before_long : length s.before.items ≡ n
  pub widths_long : length s.widths.items ≡ n
  pub row_gains_long : length s.row_gains.items ≡ n
  pub inputs_long : length s.inputs.items ≡ PORTS
  pub input_gains_long : length s.input_gains.items ≡ PORTS

-- no number has reached its limit, and the widths are at most a bound
pub record NumbersFit (n bound : ℕ) (s : Numbers) : Type 0 where
  pub long : AreLong n s
  pub narrow : AreNarrow greatest carried_width s.carried.items
  pub widths_fit : WidthsFit bound s.widths.items
  pub row_gains_fit : GainsFit s.row_gains.items
  pub input_gains_fit : GainsFit s.input_gains.items

-- how many moments were begun since the last start
abbrev pub moments : ℕ → Option RangeAt → ℕ
moments count None = count
moments count (Some at) = count + 1

-- the numbers of a sweep fit, with a width more each moment, and the moments are few
pub record SweepFits (n count : ℕ) (range : Option RangeAt) (s : Numbers) : Type 0 where
  pub numbers : NumbersFit n (moments count range * greatest_width) s
  pub few : moments count range ≤ GREATEST_LENGTH

-- the numbers of a sweep, as contracts see them
abbrev pub state_of : ℕ → ℕ → Option RangeAt → Numbers → State
state_of count made range s = record {
  count = count;
  made = made;
  range = range;
  carried_now = s.carried.items;
  inputs_now = s.inputs.items;
  width_sums = s.widths.items;
  row_gains = s.row_gains.items;
  input_gains = s.input_gains.items;
}

-- ---- a moment

-- the intervals of n rows in the moment that comes
abbrev pub settled_rows : Net → ℕ → Numbers → ℕ → Interval
settled_rows net n s = settle net n (interval_in s.carried.items)

-- the first range in a moment of n rows with these intervals, after these gains
abbrev pub range_in : Net → ℕ → (ℕ → Interval) → (ℕ → ℕ) → (ℕ → ℕ) → Option RangeAt
range_in net n at row_gains input_gains =
    option_or (first_range (row_value at row_gains) (joined n (row_places n)))
    (option_or (first_range (input_value (to_input net at) input_gains) (joined PORTS input_places))
    (first_range (rest_value (carry net at)) (joined n rest_places)))

-- ---- several moments

-- what the last moment added is added k times more
pub record IsRepeatedOn (s t : Numbers) (k : ℕ) : Type 0 where
  pub carried_same : t.carried ≡ s.carried
  pub inputs_same : t.inputs ≡ s.inputs
  pub widths_rise : whole_in t.widths.items
      ≡ (λ i. whole_in s.widths.items i +ℤ pos k *ℤ width (interval_in s.weights.items i))
  pub row_gains_rise : gain_in t.row_gains.items
      ≡ (λ i. gain_in s.row_gains.items i + k * unsigned_abs (interval_in s.weights.items i).lo)
  pub input_gains_rise : gain_in t.input_gains.items
      ≡ (λ j. gain_in s.input_gains.items j + k * magnitude (interval_in s.inputs.items j))

-- k moments were made, each of which adds what the first adds: where they are several, what is carried stays
pub record IsMoved (net : Net) (n : ℕ) (s t : Numbers) (k : ℕ) : Type 0 where
  pub stands : k ≢ 1 → interval_in t.carried.items ≡ interval_in s.carried.items
  pub carried_is : interval_in t.carried.items ≡ carry net (settled_rows net n s)
  pub carried_narrow : AreNarrow greatest carried_width t.carried.items
  pub inputs_are : interval_in t.inputs.items ≡ to_input net (settled_rows net n s)
  pub widths_rise : whole_in t.widths.items
      ≡ (λ i. whole_in s.widths.items i +ℤ pos k *ℤ width (settled_rows net n s i))
  pub row_gains_rise : gain_in t.row_gains.items
      ≡ (λ i. gain_in s.row_gains.items i + k * unsigned_abs (settled_rows net n s i).lo)
  pub input_gains_rise : gain_in t.input_gains.items
      ≡ (λ j. gain_in s.input_gains.items j + k * magnitude (to_input net (settled_rows net n s) j))

-- how many moments were begun, by an answer that tells how many were made
abbrev pub made_by : Result ℕ RangeAt → ℕ
made_by (Ok k) = k
made_by (Err at) = 1
