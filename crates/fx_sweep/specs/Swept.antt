-- What a sweep holds after so many moments.
use Rattle.std.specs.Prelude.{◌≡◌, ℕ, zero, suc, ◌+◌, ◌^◌, ◌-◌, min, ℤ, pos, List, slice_index_or, Option}
use Rattle.std.specs.Prelude.{Some, None, Result, Ok, Err}
use Rattle.fx_nums.specs.Interval.{Interval, point}
use Rattle.fx_net.specs.Net.{Net}
use Rattle.fx_sweep.specs.Gains.{widths, row_gain, input_gain}
use Rattle.fx_sweep.specs.Range.{first_range_in}
use Rattle.fx_sweep.specs.Target.{start_of}
use Rattle.fx_sweep.specs.Weights.{carried, inputs}
use Rattle.fx_sweep.specs.declared.target.RangeAt.{RangeAt}
use Rattle.fx_sweep.specs.declared.target.Target.{Target}

-- ---- lists that are 0 outside

abbrev pub interval_in : List Interval → ℕ → Interval
interval_in xs i = slice_index_or xs i (point (pos 0))

abbrev pub whole_in : List ℤ → ℕ → ℤ
whole_in xs i = slice_index_or xs i (pos 0)

abbrev pub gain_in : List ℕ → ℕ → ℕ
gain_in xs i = slice_index_or xs i 0

-- ---- a sweep as contracts see it

-- how many moments answered Ok since the last start, and how many were made in all; the range that is kept, if any; and
-- the numbers, of each row and each input
pub record State : Type 0 where
  pub count : ℕ
  pub made : ℕ
  pub range : Option RangeAt
  pub carried_now : List Interval
  pub inputs_now : List Interval
  pub width_sums : List ℤ
  pub row_gains : List ℕ
  pub input_gains : List ℕ

-- what is carried to row i of the moment before
abbrev pub carried_at : State → ℕ → Interval
carried_at s = interval_in s.carried_now

-- the interval of input j in the last moment
abbrev pub input_at : State → ℕ → Interval
input_at s = interval_in s.inputs_now

-- the width of row i, the gain of row i and the gain of input j up to now
abbrev pub width_at : State → ℕ → ℤ
width_at s = whole_in s.width_sums

abbrev pub row_gain_at : State → ℕ → ℕ
row_gain_at s = gain_in s.row_gains

abbrev pub input_gain_at : State → ℕ → ℕ
input_gain_at s = gain_in s.input_gains

-- ---- what it holds by the definitions

-- nothing
abbrev pub no_intervals : ℕ → Interval
no_intervals i = point (pos 0)

-- the intervals of the inputs in the last of m moments, 0 before the first
abbrev pub last_inputs : Net → (ℕ → Interval) → ℕ → ℕ → Interval
last_inputs net start zero = no_intervals
last_inputs net start (suc n) = inputs net start n

-- The sweep holds the numbers of a net and a target after m moments, none of which reached the limit.
pub record Swept (s : State) (net : Net) (target : Target) (m : ℕ) : Type 0 where
  pub counted : s.count ≡ m
  pub no_range : s.range ≡ None
  pub within : first_range_in net (start_of target) m ≡ None
  pub is_carried : carried_at s ≡ carried net (start_of target) m
  pub has_inputs : input_at s ≡ last_inputs net (start_of target) m
  pub has_widths : width_at s ≡ widths net (start_of target) m
  pub has_row_gains : row_gain_at s ≡ row_gain net (start_of target) m
  pub has_input_gains : input_gain_at s ≡ input_gain net (start_of target) m

-- ---- what a moment answers

-- the range that an answer gives
abbrev pub range_of : {A : Type 0} → Result A RangeAt → Option RangeAt
range_of (Ok _) = None
range_of (Err at) = Some at

-- moments made, one more
abbrev pub one_more : ℕ → ℕ
one_more made = min (made + 1) (2 ^ 64 - 1)

-- the count that an answer leaves
abbrev pub count_after : {A : Type 0} → Result A RangeAt → ℕ → ℕ
count_after (Ok _) count = count + 1
count_after (Err at) count = count

-- and that of an answer that tells how many moments were made
abbrev pub count_of : Result ℕ RangeAt → ℕ → ℕ
count_of (Ok k) count = count + k
count_of (Err at) count = count

-- nothing but the count of moments made has changed
abbrev pub IsSameBut : State → State → Type 0
IsSameBut s t = t ≡ record s { made = one_more s.made }
