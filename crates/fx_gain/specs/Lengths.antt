-- Which length serves: over how many moments the net of a filter's own equations is swept.
use Rattle.std.specs.Prelude.{ℕ, zero, suc, ◌==◌, cond, pos, List, [], ◌∷◌, length, Option, Some, None}
use Rattle.std.specs.Option.{option_map, option_or}
use Rattle.fx_eqs.specs.Expanded.{expanded}
use Rattle.fx_eqs.specs.declared.limits.TheConstants.{NET_ROWS}
use Rattle.fx_files.specs.Filter.{Filter}
use Rattle.fx_msb.specs.declared.widths.TheConstants.{GREATEST_BOUND}
use Rattle.fx_net.specs.Net.{Net, empty_net}
use Rattle.fx_net.specs.Rows.{put_rows}
use Rattle.fx_sweep.specs.Range.{first_range_in}
use Rattle.fx_sweep.specs.Target.{start_of}
use Rattle.fx_sweep.specs.declared.target.RangeAt.{RangeAt}
use Rattle.fx_sweep.specs.declared.target.Target.TheVariants.{Row}
use Rattle.fx_totals.specs.declared.target_range.TargetRange.{TargetRange}
use Rattle.fx_block.specs.Formats.{bound_of}
use Rattle.fx_block.specs.Raising.{Raises, least_by_raises}
use Rattle.fx_block.specs.Raising.Raises.{Rest, Over, Slow}
use Rattle.fx_block.specs.declared.least.Least.TheVariants.{Over as ToldOver, Slow as ToldSlow}
use Rattle.fx_block.specs.declared.least.LengthWhy.TheVariants.{Range, Bounds}
use Rattle.fx_gain.specs.declared.fails.LengthFail.{LengthFail}

-- ---- the net

-- the expanded rows of the filter's equations, and empty rows behind them
unfoldable pub original_net : Filter → Net
original_net filter = put_rows (expanded filter.equations) 0 (empty_net NET_ROWS)

abbrev pub original_count : Filter → ℕ
original_count filter = length (expanded filter.equations)

-- ---- how a length fails

-- the first of f 0, f 1, .., f (n - 1)
abbrev pub first_of : {A : Type 0} → ℕ → (ℕ → Option A) → Option A
first_of zero f = None
first_of (suc n) f = option_or (first_of n f) (f n)

-- the range that row i meets in so many moments
abbrev pub row_range : Net → ℕ → ℕ → Option TargetRange
row_range net moments i = option_map (λ (at : RangeAt). record { target = i; at = at })
    (first_range_in net (start_of (Row i)) moments)

-- bounds of the inputs' words where those of input j are alone
abbrev pub bound_alone : Filter → ℕ → ℕ → ℕ
bound_alone filter j i = cond (i == j) (bound_of filter j) 0

-- how raises of the bounds of the first n rows end, up to the greatest bound there is
unfoldable pub raises_up : Net → ℕ → (ℕ → ℕ) → (ℕ → ℕ) → Raises
raises_up net n lengths bounds = least_by_raises net n lengths bounds (λ i. GREATEST_BOUND)

-- those of the rows of a filter, for words of input j alone
abbrev pub raises_alone : Net → Filter → ℕ → ℕ → Raises
raises_alone net filter moments j = raises_up net (original_count filter) (λ i. moments) (bound_alone filter j)

-- a failure unless they come to rest
abbrev pub unrest : ℕ → ℕ → Raises → Option LengthFail
unrest moments j (Rest x) = None
unrest moments j (Over row value cap) =
    Some (record { length = moments; input = j; why = Bounds (ToldOver row (pos value) (pos cap)) })
unrest moments j (Slow row before after) =
    Some (record { length = moments; input = j; why = Bounds (ToldSlow row (pos before) (pos after)) })

abbrev pub range_failure : Net → Filter → ℕ → Option LengthFail
range_failure net filter moments =
    option_map (λ (range : TargetRange). record { length = moments; input = 0; why = Range range })
    (first_of (original_count filter) (row_range net moments))

abbrev pub bounds_failure : Net → Filter → ℕ → Option LengthFail
bounds_failure net filter moments =
    first_of (length filter.inputs) (λ j. unrest moments j (raises_alone net filter moments j))

-- the first row that meets a range, or else the first input whose bounds do not come to rest
abbrev pub length_failure : Net → Filter → ℕ → Option LengthFail
length_failure net filter moments = option_or (range_failure net filter moments) (bounds_failure net filter moments)

-- ---- the first that does not fail

abbrev pub serving_or : ℕ → Option LengthFail → Option ℕ → Option ℕ
serving_or moments None later = Some moments
serving_or moments (Some fail) later = later

abbrev pub first_serving : Net → Filter → List ℕ → Option ℕ
first_serving net filter [] = None
first_serving net filter (m ∷ ms) = serving_or m (length_failure net filter m) (first_serving net filter ms)
