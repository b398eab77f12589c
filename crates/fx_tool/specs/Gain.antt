-- Of `gain`: its plan, and what status 0 claims.
use Rattle.std.specs.Prelude.{◌≡◌, ℕ, ◌<◌, ℤ, List, [], ◌++◌, codes, length, map, Option, Some, None, Result, Ok, Err, Contains}
use Rattle.std.specs.Prelude.{IsOkAnd, IsSomeAnd}
use Rattle.std.specs.FinMap.{get}
use Rattle.std.specs.List.{flat_map}
use Rattle.fx_io.specs.Shelf.{Files}
use Rattle.fx_nums.specs.Interval.{Interval}
use Rattle.fx_files.specs.Describes.{IsFileOf}
use Rattle.fx_files.specs.Filter.{Filter}
use Rattle.fx_files.specs.Reading.{filter_of_bytes}
use Rattle.fx_keys.specs.declared.fault.FilterFault.{FilterFault}
use Rattle.fx_gain.specs.Enclosing.{enclosure, worst_words}
use Rattle.fx_gain.specs.Lengths.{first_serving, length_failure, original_net}
use Rattle.fx_gain.specs.Peak.{EnclosesPeak}
use Rattle.fx_gain.specs.declared.fails.LengthFail.{LengthFail}
use Rattle.fx_findings.specs.Peaks.{length_line, peak_lines}
use Rattle.fx_math.specs.Sums.{joined}
use Rattle.fx_tool.specs.Answer.{Answer, says}
use Rattle.fx_tool.specs.Plan.{Plan, Ends, Reads}
use Rattle.fx_tool.specs.Reading.{Has}
use Rattle.fx_tool.specs.Refused.{refused_filter}
use Rattle.fx_tool.specs.Writing.{GrowsBy}
use Rattle.fx_tool.specs.declared.status.Status.TheVariants.{Done, NoDesign}

-- ---- its lines

-- for each output, and in it for each input
abbrev pub all_lines : ℕ → ℕ → (ℕ → ℕ → Interval) → (ℕ → ℕ → List ℤ) → List ℕ
all_lines outputs inputs interval words =
    joined outputs (λ o. joined inputs (λ i. peak_lines o i (interval o i) (words o i)))

-- a length that fails
abbrev pub fail_line : LengthFail → List ℕ
fail_line fail = length_line fail.length fail.input fail.why

abbrev pub fail_text : Option LengthFail → List ℕ
fail_text None = []
fail_text (Some fail) = fail_line fail

-- how each listed length fails
abbrev pub fails_text : List (Option LengthFail) → List ℕ
fails_text fails = codes "no design\n" ++ flat_map fail_text fails

-- the gains that are found over so many moments
abbrev pub gains_text : Filter → ℕ → List ℕ
gains_text f m =
    all_lines (length f.outputs) (length f.inputs) (enclosure (original_net f) f m) (worst_words (original_net f) f m)

-- ---- its plan

-- the first listed length that serves
abbrev pub serving : Filter → Option ℕ
serving f = first_serving (original_net f) f f.settings.lengths

abbrev pub by_serving : Filter → Option ℕ → Answer
by_serving f (Some m) = says Done (gains_text f m)
by_serving f None = says NoDesign (fails_text (map (length_failure (original_net f) f) f.settings.lengths))

unfoldable pub gains : Filter → Answer
gains f = by_serving f (serving f)

-- what a filter's bytes are read as
abbrev pub gained : Result Filter FilterFault → Answer
gained (Ok f) = gains f
gained (Err fault) = refused_filter fault

abbrev pub gain_plan : Plan
gain_plan = Reads (λ filter. Ends (gained (filter_of_bytes filter)))

-- ---- what holds of the file beside the answer; of files that are not told nothing is said

-- what is found over the first length that serves encloses how far each output goes
abbrev pub GainsEnclose : Filter → Type 0
GainsEnclose f =
    (m : ℕ) → serving f ≡ Some m → (o i : ℕ) → o < length f.outputs → i < length f.inputs →
    EnclosesPeak f o i (enclosure (original_net f) f m o i) (worst_words (original_net f) f m o i)

abbrev pub BytesEnclose : List ℕ → Type 0
BytesEnclose bytes = IsOkAnd (filter_of_bytes bytes) GainsEnclose

abbrev pub FileEncloses : Option Files → List ℕ → Type 0
FileEncloses told name = Has told name BytesEnclose

-- ---- what status 0 claims

-- The file is that of a filter, and for each output and input an interval and words were put: on no admissible list of
-- words of that input alone, of any length, is the exact output ever above the high end in magnitude, and on these
-- words, as many as one of the filter's lengths says, it is at least the low end in the last moment.
pub record Gains (files : Files) (name : List ℕ) (before after : Option (List ℕ)) : Type 0 where
  pub filter : Filter
  pub moments : ℕ
  pub interval : ℕ → ℕ → Interval
  pub words : ℕ → ℕ → List ℤ
  pub described : IsSomeAnd (get files name) (λ bytes. IsFileOf bytes filter)
  pub listed : Contains filter.settings.lengths moments
  pub block : (o i : ℕ) → length (words o i) ≡ moments
  pub encloses : (o i : ℕ) → o < length filter.outputs → i < length filter.inputs →
      EnclosesPeak filter o i (interval o i) (words o i)
  pub printed : GrowsBy (all_lines (length filter.outputs) (length filter.inputs) interval words) before after
