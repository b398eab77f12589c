-- The enclosure of how far an output goes on words of one input alone, over a block of moments.
use Rattle.std.specs.Prelude.{ℕ, ◌+◌, ◌-◌, ◌^◌, ◌<◌, ◌≤ℤ◌, unsigned_abs, cond, ℤ, pos, neg_ℤ, ◌-ℤ◌, ◌*ℤ◌, int_lt}
use Rattle.std.specs.Prelude.{List, [], ◌∷◌}
use Rattle.fx_math.specs.Sums.{joined, total}
use Rattle.fx_nums.specs.Interval.{Interval}
use Rattle.fx_nums.specs.declared.limits.TheConstants.{INTERVAL_BITS}
use Rattle.fx_eqs.specs.Expanded.{row_place}
use Rattle.fx_files.specs.Filter.{Filter}
use Rattle.fx_net.specs.Net.{Net}
use Rattle.fx_sweep.specs.Target.{start_of}
use Rattle.fx_sweep.specs.Weights.{inputs}
use Rattle.fx_sweep.specs.declared.target.Target.TheVariants.{Row}
use Rattle.fx_totals.specs.Totals.{target_total, width_part}
use Rattle.fx_block.specs.Formats.{bound_of, output_at}
use Rattle.fx_block.specs.Raising.{Raises}
use Rattle.fx_block.specs.Raising.Raises.{Rest, Over, Slow}
use Rattle.fx_gain.specs.Lengths.{bound_alone, raises_alone}

-- ---- the weights of an input

-- where output o stands in the net
abbrev pub output_row : Filter → ℕ → ℕ
output_row filter o = row_place filter.equations (output_at filter o).row

abbrev pub output_start : Filter → ℕ → ℕ → Interval
output_start filter o = start_of (Row (output_row filter o))

-- how much a word of input j matters for output o, n moments later
abbrev pub weight : Net → Filter → ℕ → ℕ → ℕ → Interval
weight net filter o j n = inputs net (output_start filter o) n j

-- the least magnitude in an interval
abbrev pub least_magnitude : Interval → ℤ
least_magnitude i = cond (int_lt (pos 0) i.lo) i.lo (cond (int_lt i.hi (pos 0)) (neg_ℤ i.hi) (pos 0))

-- ---- the ends

-- the bounds of the rows with which raises come to rest
abbrev pub rest_of : Raises → ℕ → ℕ
rest_of (Rest x) = x
rest_of (Over row value cap) = λ i. 0
rest_of (Slow row before after) = λ i. 0

abbrev pub rows_alone : Net → Filter → ℕ → ℕ → ℕ → ℕ
rows_alone net filter moments j = rest_of (raises_alone net filter moments j)

-- the total of the output's row
abbrev pub high_end : Net → Filter → ℕ → ℕ → ℕ → ℤ
high_end net filter moments o j =
    target_total net (output_start filter o) moments (bound_alone filter j) (rows_alone net filter moments j)

-- what the words of the block add for certain, less what was cut off the weights
abbrev pub low_end : Net → Filter → ℕ → ℕ → ℕ → ℤ
low_end net filter moments o j =
    pos (bound_of filter j) *ℤ total moments (λ n. least_magnitude (weight net filter o j n))
    -ℤ width_part net (output_start filter o) moments (rows_alone net filter moments j)

abbrev pub enclosure : Net → Filter → ℕ → ℕ → ℕ → Interval
enclosure net filter moments o j =
    record { lo = low_end net filter moments o j; hi = high_end net filter moments o j }

-- the ends are in order, and the high one is that of an interval
pub record EndsFit (net : Net) (filter : Filter) (moments o j : ℕ) : Type 0 where
  pub order : low_end net filter moments o j ≤ℤ high_end net filter moments o j
  pub high_fits : unsigned_abs (high_end net filter moments o j) < 2 ^ INTERVAL_BITS

-- ---- the words that reach the low end

-- the bound with the sign of the weight, 0 where that is not known
abbrev pub worst_word : ℤ → Interval → ℤ
worst_word bound i = cond (int_lt (pos 0) i.lo) bound (cond (int_lt i.hi (pos 0)) (neg_ℤ bound) (pos 0))

-- in the order of time
abbrev pub worst_words : Net → Filter → ℕ → ℕ → ℕ → List ℤ
worst_words net filter moments o j =
    joined moments (λ k. worst_word (pos (bound_of filter j)) (weight net filter o j (moments - (k + 1))) ∷ [])
