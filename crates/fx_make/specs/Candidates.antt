-- Candidates for a filter's code, in the order in which they are tried, and what becomes of each.
use Rattle.std.specs.Prelude.{ℕ, pos, List, [], ◌∷◌, map, Option, Some, None, Result, Ok, Err}
use Rattle.std.specs.List.{flat_map}
use Rattle.fx_math.specs.Faults.{◌>>=◌}
use Rattle.fx_math.specs.Sums.{joined}
use Rattle.fx_eqs.specs.declared.limits.TheConstants.{PORTS}
use Rattle.fx_files.specs.Filter.{Filter}
use Rattle.fx_files.specs.Settings.{Settings}
use Rattle.fx_sif.specs.Implicit.{Implicit}
use Rattle.fx_block.specs.Candidate.{Trial, trial}
use Rattle.fx_block.specs.Candidate.Trial.{Passed, OutOfRange, OverCap, TooSlow, AboveTarget}
use Rattle.fx_block.specs.Formats.{output_at}
use Rattle.fx_quant.specs.Design.{Quantised}
use Rattle.fx_quant.specs.Quantised.{equal_guards, quantised}
use Rattle.fx_quant.specs.declared.fault.QuantFault.{QuantFault}
use Rattle.fx_quant.specs.declared.fault.QuantFault.TheVariants.{ShiftRange, Wide as WideTerm, NoMemory}
use Rattle.fx_quant.specs.declared.formats.Formats.{Formats}
use Rattle.fx_make.specs.declared.fail.Fail.{Fail}
use Rattle.fx_make.specs.declared.fail.Fail.TheVariants.{Shift, Wide, Range, Over, Slow, Error}

-- guard bits of the rows that are not put out, bits of a coefficient's fraction, moments of a sweep
pub record Candidate : Type 0 where
  pub guard : ℕ
  pub fraction : ℕ
  pub length : ℕ

abbrev pub candidate_at : ℕ → ℕ → ℕ → Candidate
candidate_at guard fraction length = record { guard = guard; fraction = fraction; length = length }

-- guards outermost, then fractions, then lengths, each list in its own order
abbrev pub of_fraction : List ℕ → ℕ → ℕ → List Candidate
of_fraction lengths guard fraction = map (candidate_at guard fraction) lengths

abbrev pub of_guard : List ℕ → List ℕ → ℕ → List Candidate
of_guard fractions lengths guard = flat_map (of_fraction lengths guard) fractions

abbrev pub candidates : Settings → List Candidate
candidates s = flat_map (of_guard s.fractions s.lengths) s.guards

-- ---- quantising

-- the low positions, the accumulators and the rounding of a filter
abbrev pub formats_of : Filter → Formats
formats_of f = record {
  input_low = f.input_low;
  lows = joined PORTS (λ o. (output_at f o).low ∷ []);
  accumulator = f.settings.accumulator;
  mode = f.settings.rounding;
}

-- why a candidate has no rows; no definition answers want of memory
abbrev pub quantising_fail : QuantFault → Fail
quantising_fail (ShiftRange row) = Shift row
quantising_fail (WideTerm row term value) = Wide row term value
quantising_fail NoMemory = Shift 0

abbrev pub rows_or_fail : Result Quantised QuantFault → Result Quantised Fail
rows_or_fail (Ok d) = Ok d
rows_or_fail (Err fault) = Err (quantising_fail fault)

-- the rows of a form with equal guards
abbrev pub quantised_rows : Filter → Implicit → ℕ → ℕ → Result Quantised Fail
quantised_rows f s guard fraction = rows_or_fail (quantised s (formats_of f) (equal_guards s guard) fraction)

-- ---- after quantising

-- how a trial fails, if it does
abbrev pub trial_fail : Trial → Option Fail
trial_fail (Passed x) = None
trial_fail (OutOfRange target at) = Some (Range (record { target = target; at = at }))
trial_fail (OverCap row value cap) = Some (Over row (pos value) (pos cap))
trial_fail (TooSlow row before after) = Some (Slow row (pos before) (pos after))
trial_fail (AboveTarget output total target) = Some (Error output total target)

-- rows, and bounds with which they pass
pub record Passing : Type 0 where
  pub design : Quantised
  pub bounds : ℕ → ℕ

abbrev pub passing_or_fail : Quantised → Trial → Result Passing Fail
passing_or_fail d (Passed x) = Ok (record { design = d; bounds = x })
passing_or_fail d (OutOfRange target at) = Err (Range (record { target = target; at = at }))
passing_or_fail d (OverCap row value cap) = Err (Over row (pos value) (pos cap))
passing_or_fail d (TooSlow row before after) = Err (Slow row (pos before) (pos after))
passing_or_fail d (AboveTarget output total target) = Err (Error output total target)

-- ---- a candidate

-- it is quantised, then its rows are tried
abbrev pub tried : Filter → Implicit → Candidate → Result Passing Fail
tried f s c =
    quantised_rows f s c.guard c.fraction >>= λ d. passing_or_fail d (trial f d.rows c.length)
