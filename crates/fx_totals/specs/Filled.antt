-- What totals hold of the targets that were swept.
use Rattle.std.specs.Prelude.{◌≡◌, ℕ, zero, suc, ◌+◌, ◌<◌, ◌≤◌, pos, List, length, slice_index_or, Option, Some}
use Rattle.std.specs.Prelude.{None, option_map, Result, Ok, Err}
use Rattle.std.specs.Option.{option_or}
use Rattle.fx_math.specs.Sums.{sum_below}
use Rattle.fx_eqs.specs.declared.limits.TheConstants.{PORTS}
use Rattle.fx_nums.specs.Interval.{Interval}
use Rattle.fx_net.specs.Net.{Net}
use Rattle.fx_sweep.specs.Gains.{widths, input_gain, rest}
use Rattle.fx_sweep.specs.Range.{first_range_in}
use Rattle.fx_sweep.specs.Swept.{gain_in}
use Rattle.fx_sweep.specs.Target.{TargetFits, start_of}
use Rattle.fx_sweep.specs.declared.limits.TheConstants.{GREATEST_LENGTH}
use Rattle.fx_sweep.specs.declared.target.Target.{Target}
use Rattle.fx_sweep.specs.declared.target.Target.TheVariants.{Row}
use Rattle.fx_sweep.specs.declared.target.RangeAt.{RangeAt}
use Rattle.fx_totals.specs.Kept.{Kept, kept_rounding, kept_gain, kept_width, kept_rest}
use Rattle.fx_totals.specs.Totals.{rounding}
use Rattle.fx_totals.specs.declared.target_range.TargetRange.{TargetRange}

-- ---- the targets and their lengths

abbrev pub target_in : List Target → ℕ → Target
target_in targets t = slice_index_or targets t (Row 0)

-- for how many moments target t is swept
abbrev pub length_in : List ℕ → ℕ → ℕ
length_in lengths t = gain_in lengths t

-- one length for each of at most N + PORTS targets of a net of N rows, of 1 to GREATEST_LENGTH moments
pub record CanBeFilled (n : ℕ) (targets : List Target) (lengths : List ℕ) : Type 0 where
  pub few : length targets ≤ n + PORTS
  pub a_length_each : length lengths ≡ length targets
  pub targets_fit : (t : ℕ) → t < length targets → TargetFits n (target_in targets t)
  pub some : (t : ℕ) → t < length targets → 1 ≤ length_in lengths t
  pub short : (t : ℕ) → t < length targets → length_in lengths t ≤ GREATEST_LENGTH

-- the first n of the targets are rows 0 to n - 1 in order, and no more of them
pub record AreLeading (n : ℕ) (targets : List Target) : Type 0 where
  pub inside : n ≤ length targets
  pub rows : (t : ℕ) → t < n → target_in targets t ≡ Row t
  pub no_more : n < length targets → target_in targets n ≡ Row n → ⊥

-- ---- ranges

-- the range that target t meets within its length, if any
abbrev pub range_of_target : Net → List Target → List ℕ → ℕ → Option TargetRange
range_of_target net targets lengths t =
    option_map (λ (at : RangeAt). record { target = t; at = at })
    (first_range_in net (start_of (target_in targets t)) (length_in lengths t))

-- the first of the first n targets that meets one, and that range
abbrev pub first_target_range : Net → List Target → List ℕ → ℕ → Option TargetRange
first_target_range net targets lengths zero = None
first_target_range net targets lengths (suc t) =
    option_or (first_target_range net targets lengths t) (range_of_target net targets lengths t)

-- what an answer tells
abbrev pub told_by : {A : Type 0} → Result A TargetRange → Option TargetRange
told_by (Ok _) = None
told_by (Err range) = Some range

-- ---- what is filled

-- for target t the numbers of a sweep from a start after m moments are kept
pub record HoldsTarget (k : Kept) (t : ℕ) (net : Net) (start : ℕ → Interval) (m : ℕ) : Type 0 where
  pub rounding_is : kept_rounding k t ≡ rounding net start m
  pub gains_are : (j : ℕ) → j < PORTS → kept_gain k t j ≡ pos (input_gain net start m j)
  pub widths_are : (i : ℕ) → i < net.rows → kept_width k t i ≡ widths net start m i
  pub rests_are : (i : ℕ) → i < net.rows → kept_rest k t i ≡ pos (rest net start m i)

-- so it is for each of these targets, after as many moments as its length
abbrev pub AreHeld : Kept → Net → List Target → List ℕ → Type 0
AreHeld k net targets lengths = (t : ℕ) → t < length targets →
    HoldsTarget k t net (start_of (target_in targets t)) (length_in lengths t)

-- Totals hold these targets of a net, and for each the numbers after as many moments as its length, of which there are
-- some.
pub record Filled (k : Kept) (net : Net) (targets : List Target) (lengths : List ℕ) : Type 0 where
  pub size : net.rows ≡ k.size
  pub count : k.filled ≡ length targets
  pub a_length_each : length lengths ≡ length targets
  pub some : (t : ℕ) → t < length targets → 1 ≤ length_in lengths t
  pub leading : AreLeading k.leading targets
  pub numbers : (t : ℕ) → t < length targets →
      HoldsTarget k t net (start_of (target_in targets t)) (length_in lengths t)

-- the moments of n targets
abbrev pub moments_of : List ℕ → ℕ → ℕ
moments_of lengths n = sum_below n (λ t. length_in lengths t)
