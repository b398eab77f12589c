-- How the trial of a candidate's rows fails for a length, and the first length for which it does not.
use Rattle.std.specs.Prelude.{◌≡◌, ℕ, ◌+◌, ◌<◌, nat_lt, cond, ℤ, pos, slice_index_or, List, length, Option, Some}
use Rattle.std.specs.Prelude.{None, is_none}
use Rattle.fx_files.specs.Filter.{Filter}
use Rattle.fx_code.specs.Code.{BareRow}
use Rattle.fx_totals.specs.Filled.{length_in}
use Rattle.fx_totals.specs.Kept.{Kept, kept_total}
use Rattle.fx_block.specs.Candidate.{candidate_count, candidate_net, candidate_total, cap_of, first_above, trial}
use Rattle.fx_block.specs.Candidate.Trial.{Passed}
use Rattle.fx_block.specs.Formats.{bound_of, output_at}
use Rattle.fx_block.specs.Raising.{Raises, first_row, least_by_raises}
use Rattle.fx_block.specs.Raising.Raises.{Rest, Over as OverCap, Slow as TooSlow}
use Rattle.fx_block.specs.declared.least.Least.{Least}
use Rattle.fx_block.specs.declared.least.Least.TheVariants.{Over as ToldOver, Rest as ToldRest, Slow as ToldSlow}
use Rattle.fx_make.specs.Candidates.{trial_fail}
use Rattle.fx_make.specs.declared.fail.Fail.{Fail}
use Rattle.fx_make.specs.declared.fail.Fail.TheVariants.{Over, Slow, Error}

-- ---- the steps of a trial

-- the raises of the bounds, and how they fail
abbrev pub raises_of : Filter → List BareRow → ℕ → Raises
raises_of f rows m =
    least_by_raises (candidate_net f rows) (candidate_count f rows) (λ j. m) (bound_of f) (cap_of f rows)

-- the first output whose total is above its target
abbrev pub above_fail : Filter → (ℕ → ℤ) → Option ℕ → Option Fail
above_fail f total None = None
above_fail f total (Some o) = Some (Error o (total o) (output_at f o).target)

-- ---- all lengths

-- how the trial fails, if it does
abbrev pub length_fail : Filter → List BareRow → ℕ → Option Fail
length_fail f rows m = trial_fail (trial f rows m)

-- the place of the first of n lengths for which it does not
abbrev pub first_passing : Filter → List BareRow → (ℕ → ℕ) → ℕ → Option ℕ
first_passing f rows lengths n = first_row n (λ l. is_none (length_fail f rows (lengths l)))

-- ---- what is told of the steps

-- the failure of an answer of `least_bounds`
abbrev pub least_fail : Least → Option Fail
least_fail ToldRest = None
least_fail (ToldOver row value cap) = Some (Over row value cap)
least_fail (ToldSlow row before after) = Some (Slow row before after)

-- how raises fail; at rest, these are the bounds
abbrev pub TellsRaises : Raises → Option Fail → (ℕ → ℕ) → Type 0
TellsRaises (Rest rows) fail x = (fail ≡ None) × (x ≡ rows)
TellsRaises (OverCap row value cap) fail x = fail ≡ Some (Over row (pos value) (pos cap))
TellsRaises (TooSlow row before after) fail x = fail ≡ Some (Slow row (pos before) (pos after))

-- the totals of the outputs' pairs that are kept, behind those of the rows, and the first above its target
abbrev pub kept_pairs : Filter → List BareRow → Kept → (ℕ → ℕ) → ℕ → ℤ
kept_pairs f rows k x o = kept_total k (candidate_count f rows + o) (bound_of f) x

abbrev pub first_above_fail : Filter → (ℕ → ℤ) → ℕ → Option Fail
first_above_fail f total n = above_fail f total (first_above n total (λ o. (output_at f o).target))

abbrev pub kept_above : Filter → (ℕ → ℤ) → Option Fail
kept_above f total = first_above_fail f total (length f.outputs)

-- how a trial fails; where it passes, these are the bounds and the totals of the outputs' pairs
pub record TellsTrial (f : Filter) (rows : List BareRow) (m : ℕ) (fail : Option Fail) (x : ℕ → ℕ) (e : ℕ → ℤ) : Type 0
  where
    pub told : fail ≡ length_fail f rows m
    pub bounds : fail ≡ None → trial f rows m ≡ Passed x
    pub errors : fail ≡ None → (o : ℕ) → o < length f.outputs → e o ≡ candidate_total f rows m x o

-- ---- what is told of all lengths

-- how many lengths failed before the first that passes, or of n where none does
abbrev pub failed_count : ℕ → Option ℕ → ℕ
failed_count n None = n
failed_count n (Some l) = l

-- what is told at a place: how the trial fails for its length, if that was tried and failed
abbrev pub fail_at : Filter → List BareRow → Option ℕ → ℕ → Option Fail
fail_at f rows first l =
    cond (nat_lt l (failed_count (length f.settings.lengths) first))
    (length_fail f rows (length_in f.settings.lengths l)) None

abbrev pub fail_in : List (Option Fail) → ℕ → Option Fail
fail_in fails l = slice_index_or fails l None

-- the trial passes with these bounds and these totals of the outputs' pairs
pub record HasPassing (f : Filter) (rows : List BareRow) (m : ℕ) (x : ℕ → ℕ) (e : ℕ → ℤ) : Type 0 where
  pub passed : trial f rows m ≡ Passed x
  pub errors : (o : ℕ) → o < length f.outputs → e o ≡ candidate_total f rows m x o
