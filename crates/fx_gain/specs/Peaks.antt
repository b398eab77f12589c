-- What the enclosures of a filter are, and when an answer is right.
use Rattle.std.specs.Prelude.{◌≡◌, ⊤, ℕ, ◌+◌, ◌*◌, ◌<◌, ◌≤◌, ℤ, List, [], length, map, slice_index_or, Some, Result}
use Rattle.std.specs.Prelude.{Ok, Err}
use Rattle.fx_eqs.specs.declared.limits.TheConstants.{PORTS}
use Rattle.fx_gain.specs.declared.fails.PeakFault.{PeakFault}
use Rattle.fx_gain.specs.declared.fails.PeakFault.TheVariants.{NoLength, NoMemory}
use Rattle.fx_files.specs.Filter.{Filter}
use Rattle.fx_mat.specs.Intervals.{IntervalMatrix, interval_at}
use Rattle.fx_net.specs.Net.{Net}
use Rattle.fx_nums.specs.Interval.{Interval}
use Rattle.fx_gain.specs.Enclosing.{enclosure, worst_words}
use Rattle.fx_gain.specs.Lengths.{first_serving, length_failure}
use Rattle.fx_gain.specs.Peak.{EnclosesPeak}
use Rattle.fx_gain.specs.Rows.{IsBlock}
use Rattle.fx_totals.specs.Kept.{Kept}
use Rattle.fx_gain.specs.declared.fails.LengthFail.{LengthFail}

-- the length of the block, the counts of outputs and inputs, an interval for each output and input, and the words of
-- the input for each of these, one output after the other
pub record PeakValues : Type 0 where
  pub moments : ℕ
  pub outputs : ℕ
  pub inputs : ℕ
  pub intervals : IntervalMatrix
  pub words : List (List ℤ)

abbrev pub interval_of : PeakValues → ℕ → ℕ → Interval
interval_of p o j = interval_at p.intervals o j

abbrev pub words_of : PeakValues → ℕ → ℕ → List ℤ
words_of p o j = slice_index_or p.words (o * p.inputs + j) []

-- they are those of the filter over the first listed length that serves
pub record ArePeaks (net : Net) (filter : Filter) (p : PeakValues) : Type 0 where
  pub serves : first_serving net filter filter.settings.lengths ≡ Some p.moments
  pub outputs_are : p.outputs ≡ length filter.outputs
  pub inputs_are : p.inputs ≡ length filter.inputs
  pub intervals_are : (o j : ℕ) → o < length filter.outputs → j < length filter.inputs →
      interval_of p o j ≡ enclosure net filter p.moments o j
  pub words_are : (o j : ℕ) → o < length filter.outputs → j < length filter.inputs →
      words_of p o j ≡ worst_words net filter p.moments o j

-- each listed length fails, with these failures
abbrev pub EachFails : Net → Filter → List LengthFail → Type 0
EachFails net filter fails = map (length_failure net filter) filter.settings.lengths ≡ map Some fails

-- each interval encloses how far its output goes on words of its input alone, and its words reach the low end
abbrev pub EnclosePeaks : Filter → PeakValues → Type 0
EnclosePeaks filter p = (o j : ℕ) → o < length filter.outputs → j < length filter.inputs →
    EnclosesPeak filter o j (interval_of p o j) (words_of p o j)

-- what peaks keep
pub record PeaksFit (p : PeakValues) : Type 0 where
  pub few_outputs : p.outputs ≤ PORTS
  pub few_inputs : p.inputs ≤ PORTS
  pub count : length p.words ≡ p.outputs * p.inputs

-- an answer that there are none is right
abbrev pub FailsSo : Net → Filter → PeakFault → Type 0
FailsSo net filter (NoLength fails) = EachFails net filter fails
FailsSo net filter NoMemory = ⊤

-- a listed length is the first that serves, and the totals hold the rows over it; or each of them fails
abbrev pub FindsLength : Net → Filter → Kept → Result ℕ (List LengthFail) → Type 0
FindsLength net filter k (Ok m) = (first_serving net filter filter.settings.lengths ≡ Some m) × IsBlock filter net k m
FindsLength net filter k (Err fails) = EachFails net filter fails
