-- Totals of the same targets of a net, at several lengths.
use Rattle.std.specs.Prelude.{◌≡◌, ℕ, ◌+◌, ◌<◌, ◌≤◌, cond, List, [], length, replicate, slice_index_or}
use Rattle.std.specs.Prelude.{Option, Some, None, is_none}
use Rattle.fx_eqs.specs.declared.limits.TheConstants.{PORTS}
use Rattle.fx_net.specs.Net.{Net}
use Rattle.fx_sweep.specs.Range.{first_range_in, range_at}
use Rattle.fx_sweep.specs.Swept.{State, Swept}
use Rattle.fx_sweep.specs.Target.{TargetFits, start_of}
use Rattle.fx_sweep.specs.declared.limits.TheConstants.{GREATEST_LENGTH}
use Rattle.fx_sweep.specs.declared.target.RangeAt.{RangeAt}
use Rattle.fx_sweep.specs.declared.target.Target.{Target}
use Rattle.fx_totals.specs.Filled.{Filled, HoldsTarget, first_target_range, length_in, target_in}
use Rattle.fx_totals.specs.Kept.{Kept}
use Rattle.fx_totals.specs.declared.limits.TheConstants.{MOST_LENGTHS}
use Rattle.fx_totals.specs.declared.target_range.TargetRange.{TargetRange}

-- ---- the lengths

-- at most MOST_LENGTHS lengths of 1 to GREATEST_LENGTH moments, and at most N + PORTS targets of a net of N rows
pub record CanBeSeries (n : ℕ) (targets : List Target) (lengths : List ℕ) : Type 0 where
  pub few : length targets ≤ n + PORTS
  pub targets_fit : (t : ℕ) → t < length targets → TargetFits n (target_in targets t)
  pub few_lengths : length lengths ≤ MOST_LENGTHS
  pub some : (l : ℕ) → l < length lengths → 1 ≤ length_in lengths l
  pub short : (l : ℕ) → l < length lengths → length_in lengths l ≤ GREATEST_LENGTH

-- the same length for each target
abbrev pub for_each : List Target → ℕ → List ℕ
for_each targets moments = replicate (length targets) moments

-- no length is greater
abbrev pub AreUpToLength : ℕ → List ℕ → Type 0
AreUpToLength most lengths = (l : ℕ) → l < length lengths → length_in lengths l ≤ most

-- ---- what is kept

-- For one length: it, the numbers of the targets, and the first target that meets a range within it, if any.
pub record KeptAtLength : Type 0 where
  pub moments : ℕ
  pub kept : Kept
  pub range : Option TargetRange

-- how many lengths there are, and what is kept for each
pub record KeptSeries : Type 0 where
  pub count : ℕ
  pub parts : List KeptAtLength

-- what is kept outside of a list: nothing
abbrev pub nothing_kept : KeptAtLength
nothing_kept = record {
  moments = 0;
  kept = record {
    size = 0;
    filled = 0;
    leading = 0;
    roundings = [];
    input_gains = [];
    row_widths = [];
    row_rests = [];
  };
  range = None;
}

abbrev pub part_in : List KeptAtLength → ℕ → KeptAtLength
part_in parts l = slice_index_or parts l nothing_kept

-- the first target that meets a range within length l, and the totals for it
abbrev pub range_for : KeptSeries → ℕ → Option TargetRange
range_for s l = (part_in s.parts l).range

abbrev pub totals_for : KeptSeries → ℕ → Kept
totals_for s l = (part_in s.parts l).kept

-- for how many moments a target has still to be swept for one length: for none, where a target has met a range
abbrev pub still_wanted : KeptAtLength → ℕ
still_wanted p = cond (is_none p.range) p.moments 0

-- ---- what is filled

-- For each length a series holds the first of the targets that meets a range within it; and where none does, totals
-- that are filled with these targets and that length for each.
pub record IsSeries (s : KeptSeries) (net : Net) (targets : List Target) (lengths : List ℕ) : Type 0 where
  pub count : s.count ≡ length lengths
  pub ranges : (l : ℕ) → l < length lengths →
      range_for s l ≡ first_target_range net targets (for_each targets (length_in lengths l)) (length targets)
  pub filled : (l : ℕ) → l < length lengths → range_for s l ≡ None →
      Filled (totals_for s l) net targets (for_each targets (length_in lengths l))

-- ---- one target after the other, moment after moment

-- What is kept for a length, where the targets before target t are done, and that one was swept for m moments.
pub record IsSoFar (p : KeptAtLength) (net : Net) (targets : List Target) (wanted t m : ℕ) : Type 0 where
  pub some : 1 ≤ wanted
  pub wanted_is : p.moments ≡ wanted
  pub range_is : p.range ≡ first_target_range net targets (for_each targets wanted) t
  pub earlier : p.range ≡ None → (s : ℕ) → s < t → HoldsTarget p.kept s net (start_of (target_in targets s)) wanted
  pub here : p.range ≡ None → wanted ≤ m → HoldsTarget p.kept t net (start_of (target_in targets t)) wanted

-- so it is for each length
abbrev pub AreSoFar : List KeptAtLength → Net → List Target → List ℕ → ℕ → ℕ → Type 0
AreSoFar parts net targets lengths t m = (l : ℕ) → l < length lengths →
    IsSoFar (part_in parts l) net targets (length_in lengths l) t m

-- the numbers of a sweep of target t, which was swept on, from m moments to so many, with no length between them, are
-- kept, if these are all that are wanted
abbrev pub IsKeptOn : State → Net → ℕ → ℕ → KeptAtLength → KeptAtLength → Type 0
IsKeptOn sweep net t moments p q =
    (targets : List Target) (wanted m : ℕ) → (m < wanted → moments ≤ wanted) →
    Swept sweep net (target_in targets t) moments →
    IsSoFar p net targets wanted t m → IsSoFar q net targets wanted t moments

-- target t, which met a range in moment m, is refused, if that moment is wanted
abbrev pub IsRefusedOn : ℕ → RangeAt → ℕ → KeptAtLength → KeptAtLength → Type 0
IsRefusedOn t at m p q =
    (net : Net) (targets : List Target) (wanted : ℕ) → t < length targets →
    first_range_in net (start_of (target_in targets t)) m ≡ None →
    range_at net (start_of (target_in targets t)) m ≡ Some at →
    IsSoFar p net targets wanted t m → IsSoFar q net targets wanted (t + 1) 0

-- a step is made for each of the first n lengths
abbrev pub IsMadeForEach : (KeptAtLength → KeptAtLength → Type 0) → ℕ → List KeptAtLength → List KeptAtLength → Type 0
IsMadeForEach Step n before after = (l : ℕ) → l < n → Step (part_in before l) (part_in after l)

-- and this is it in the end
pub record IsDone (p : KeptAtLength) (net : Net) (targets : List Target) (wanted : ℕ) : Type 0 where
  pub range_is : p.range ≡ first_target_range net targets (for_each targets wanted) (length targets)
  pub filled : p.range ≡ None → Filled p.kept net targets (for_each targets wanted)

abbrev pub AreDone : List KeptAtLength → Net → List Target → List ℕ → Type 0
AreDone parts net targets lengths = (l : ℕ) → l < length lengths →
    IsDone (part_in parts l) net targets (length_in lengths l)

-- the first n parts want at most so many moments
abbrev pub WantUpTo : ℕ → ℕ → List KeptAtLength → Type 0
WantUpTo most n parts = (l : ℕ) → l < n → (part_in parts l).moments ≤ most
