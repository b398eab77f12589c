-- What becomes of a candidate after quantising: rows whose widths are still open, swept for so many moments.
use Rattle.std.specs.Prelude.{ℕ, zero, suc, ◌+◌, ◌-◌, ◌^◌, nat_lt, min, cond, ℤ, int_le, List, length, Option}
use Rattle.std.specs.Prelude.{Some, None}
use Rattle.std.specs.Option.{option_map, option_or}
use Rattle.fx_eqs.specs.Expanded.{expanded, row_place}
use Rattle.fx_msb.specs.declared.widths.TheConstants.{GREATEST_BOUND}
use Rattle.fx_files.specs.Filter.{Filter}
use Rattle.fx_net.specs.Net.{Net, empty_net}
use Rattle.fx_net.specs.Rows.{put_rows}
use Rattle.fx_code.specs.Code.{BareRow}
use Rattle.fx_code.specs.NetRows.{bare_at, put_bare_rows}
use Rattle.fx_sweep.specs.Range.{first_range_in}
use Rattle.fx_sweep.specs.Target.{start_of}
use Rattle.fx_sweep.specs.declared.target.RangeAt.{RangeAt}
use Rattle.fx_sweep.specs.declared.target.Target.{Target}
use Rattle.fx_sweep.specs.declared.target.Target.TheVariants.{Row, Pair}
use Rattle.fx_totals.specs.Totals.{target_total}
use Rattle.fx_block.specs.Formats.{bound_of, output_at, shift_of}
use Rattle.fx_block.specs.Raising.{Raises, least_by_raises}
use Rattle.fx_block.specs.Raising.Raises.{Rest, Over, Slow}

-- ---- its net and targets

abbrev pub candidate_count : Filter → List BareRow → ℕ
candidate_count filter rows = length rows + length (expanded filter.equations)

-- the rows and, behind them, the expanded rows of the filter
abbrev pub candidate_net : Filter → List BareRow → Net
candidate_net filter rows =
    put_rows (expanded filter.equations) (length rows)
    (put_bare_rows rows 0 (empty_net (candidate_count filter rows)))

-- the last rows are put out; so many are not
abbrev pub inner_count : Filter → List BareRow → ℕ
inner_count filter rows = length rows - length filter.outputs

abbrev pub candidate_pair : Filter → List BareRow → ℕ → Target
candidate_pair filter rows o =
    Pair (inner_count filter rows + o) (length rows + row_place filter.equations (output_at filter o).row)
    (shift_of filter o)

-- the first target whose sweep reaches its limit, with its number, of so many from a number on
abbrev pub first_target : ℕ → ℕ → (ℕ → Option RangeAt) → Option (ℕ × RangeAt)
first_target zero from range = None
first_target (suc n) from range = option_or (first_target n from range) (option_map (λ at. (from + n, at)) (range n))

-- rows are the first targets, pairs come behind them
abbrev pub candidate_range : Filter → List BareRow → ℕ → Option (ℕ × RangeAt)
candidate_range filter rows moments =
    option_or
    (first_target (candidate_count filter rows) 0 (λ j.
    first_range_in (candidate_net filter rows) (start_of (Row j)) moments))
    (first_target (length filter.outputs) (candidate_count filter rows) (λ o.
    first_range_in (candidate_net filter rows) (start_of (candidate_pair filter rows o)) moments))

-- ---- how far its bounds may go

-- the most bits of a row: those of its output, or of an inner word
abbrev pub most_width : Filter → List BareRow → ℕ → ℕ
most_width filter rows i =
    cond (nat_lt i (inner_count filter rows)) (min filter.settings.word filter.settings.accumulator)
    (output_at filter (i - inner_count filter rows)).width

-- what the word and the accumulator of a row take; a row of the filter's own has the greatest bound
abbrev pub cap_of : Filter → List BareRow → ℕ → ℕ
cap_of filter rows j =
    cond (nat_lt j (length rows))
    (min (2 ^ (most_width filter rows j - 1) - 1) (2 ^ (filter.settings.accumulator - 1 - (bare_at rows j).shift) - 1))
    GREATEST_BOUND

-- ---- what becomes of it

-- it passes with these bounds; a sweep reaches its limit; a raised bound passes its cap; the bounds do not come to
-- rest; or the total of an output's pair is above the wanted error
pub data Trial : Type 0 where
  Passed : (ℕ → ℕ) → Trial
  OutOfRange : ℕ → RangeAt → Trial
  OverCap : ℕ → ℕ → ℕ → Trial
  TooSlow : ℕ → ℕ → ℕ → Trial
  AboveTarget : ℕ → ℤ → ℤ → Trial

abbrev pub candidate_total : Filter → List BareRow → ℕ → (ℕ → ℕ) → ℕ → ℤ
candidate_total filter rows moments x o =
    target_total (candidate_net filter rows) (start_of (candidate_pair filter rows o)) moments
    (bound_of filter) x

-- the first output whose total is above its target
abbrev pub first_above : ℕ → (ℕ → ℤ) → (ℕ → ℤ) → Option ℕ
first_above zero total target = None
first_above (suc n) total target =
    option_or (first_above n total target) (cond (int_le (total n) (target n)) None (Some n))

abbrev pub with_errors : Filter → (ℕ → ℕ) → (ℕ → ℤ) → Option ℕ → Trial
with_errors filter x total None = Passed x
with_errors filter x total (Some o) = AboveTarget o (total o) (output_at filter o).target

abbrev pub with_bounds : Filter → List BareRow → ℕ → Raises → Trial
with_bounds filter rows moments (Rest x) =
    let total = candidate_total filter rows moments x in
    with_errors filter x total (first_above (length filter.outputs) total (λ o. (output_at filter o).target))
with_bounds filter rows moments (Over row value cap) = OverCap row value cap
with_bounds filter rows moments (Slow row before after) = TooSlow row before after

abbrev pub with_range : Filter → List BareRow → ℕ → Option (ℕ × RangeAt) → Trial
with_range filter rows moments (Some found) = OutOfRange found.0 found.1
with_range filter rows moments None =
    with_bounds filter rows moments
    (least_by_raises (candidate_net filter rows) (candidate_count filter rows) (λ j.
    moments) (bound_of filter) (cap_of filter rows))

-- the filter's ranges first, then its bounds, then its errors
abbrev pub trial : Filter → List BareRow → ℕ → Trial
trial filter rows moments = with_range filter rows moments (candidate_range filter rows moments)
