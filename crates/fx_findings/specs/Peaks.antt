-- The lines of peak gains, and of lengths that do not do.
use Rattle.std.specs.Prelude.{ℕ, ℤ, List, ◌++◌, codes}
use Rattle.std.specs.Fmt.{decimal, signed_decimal}
use Rattle.std.specs.List.{flat_map}
use Rattle.fx_math.specs.Sums.{joined}
use Rattle.fx_decimal.specs.Printed.{down_text}
use Rattle.fx_nums.specs.Interval.{Interval}
use Rattle.fx_totals.specs.declared.target_range.TargetRange.{TargetRange}
use Rattle.fx_block.specs.declared.least.Least.{Least}
use Rattle.fx_block.specs.declared.least.Least.TheVariants.{Rest, Over, Slow}
use Rattle.fx_block.specs.declared.least.LengthWhy.{LengthWhy}
use Rattle.fx_block.specs.declared.least.LengthWhy.TheVariants.{Range, Bounds}
use Rattle.fx_gain.specs.Peaks.{PeakValues, interval_of, words_of}
use Rattle.fx_gain.specs.declared.fails.LengthFail.{LengthFail}
use Rattle.fx_lines.specs.Verdict.{place_text, sides_line, up_part}
use Rattle.fx_lines.specs.declared.decimals.TheConstants.{PLACES}

-- ---- gains

-- how far output o goes on words of input i alone: from lo / 2 ^ 64 to hi / 2 ^ 64, rounded outwards in the last
-- place
abbrev pub gain_line : ℕ → ℕ → Interval → List ℕ
gain_line o i gain =
    codes "gain " ++ decimal o ++ codes " " ++ decimal i ++ codes " " ++ down_text gain.lo PLACES
    ++ up_part (codes " ") gain.hi ++ codes "\n"

-- each word behind a space
abbrev pub words_text : List ℤ → List ℕ
words_text words = flat_map (λ w. codes " " ++ signed_decimal w) words

-- the words of input i on which output o reaches the low end, in the order of time
abbrev pub worst_line : ℕ → ℕ → List ℤ → List ℕ
worst_line o i words = codes "worst " ++ decimal o ++ codes " " ++ decimal i ++ words_text words ++ codes "\n"

abbrev pub peak_lines : ℕ → ℕ → Interval → List ℤ → List ℕ
peak_lines o i gain words = gain_line o i gain ++ worst_line o i words

-- those of each input for one output
abbrev pub output_lines : PeakValues → ℕ → List ℕ
output_lines p o = joined p.inputs (λ i. peak_lines o i (interval_of p o i) (words_of p o i))

-- output by output
abbrev pub gain_lines : PeakValues → List ℕ
gain_lines p = joined p.outputs (output_lines p)

-- ---- lengths that do not do

-- the end of a line, where the sweep of a target meets a range
abbrev pub range_line : TargetRange → List ℕ
range_line range =
    codes " range target " ++ decimal range.target ++ codes " " ++ place_text range.at.place ++ codes " "
    ++ signed_decimal range.at.value ++ codes "\n"

-- the end of a line, where bounds come to no rest
abbrev pub bounds_line : Least → List ℕ
bounds_line Rest = codes "\n"
bounds_line (Over row value cap) = codes " over row " ++ decimal row ++ sides_line value cap
bounds_line (Slow row before after) = codes " slow row " ++ decimal row ++ sides_line before after

-- so many moments, and why they do not do; bounds are those of one input alone
abbrev pub length_line : ℕ → ℕ → LengthWhy → List ℕ
length_line moments input (Range range) = codes "length " ++ decimal moments ++ range_line range
length_line moments input (Bounds bounds) =
    codes "length " ++ decimal moments ++ codes " input " ++ decimal input ++ bounds_line bounds

-- each length with what fails
abbrev pub no_length_lines : List LengthFail → List ℕ
no_length_lines fails = codes "no design\n" ++ flat_map (λ f. length_line f.length f.input f.why) fails
