-- What a verdict tells.
use Rattle.std.specs.Prelude.{Option, Some, None, Result, Ok, Err}
use Rattle.std.specs.Option.{option_or}
use Rattle.fx_files.specs.Filter.{Filter}
use Rattle.fx_code.specs.Code.{Code}
use Rattle.fx_cert.specs.Certificate.{Certificate}
use Rattle.fx_block.specs.Failure.{Failure, bound_failure, error_failure, sum_failure, wanted_failure, word_failure}
use Rattle.fx_check.specs.declared.refusal.Refusal.{Refusal}
use Rattle.fx_check.specs.declared.verdict.Verdict.{Verdict}
use Rattle.fx_check.specs.declared.verdict.Verdict.TheVariants.{Accepted, Refused}

-- the inequality that fails, with both sides; none where all hold
abbrev pub failure_of : Verdict → Option Failure
failure_of Accepted = None
failure_of (Refused which left right) = Some (record { which = which; left = left; right = right })

-- the same of one step of a judgement
abbrev pub failure_in : Refusal → Failure
failure_in refusal = record { which = refusal.which; left = refusal.left; right = refusal.right }

abbrev pub told_by : {A : Type 0} → Result A Refusal → Option Failure
told_by (Ok _) = None
told_by (Err refusal) = Some (failure_in refusal)

-- the first that fails of what follows the form and the sweeps
abbrev pub compared_failure : Filter → Code → Certificate → Option Failure
compared_failure filter p c =
    option_or (bound_failure filter p c) (
    option_or (word_failure p c) (
    option_or (sum_failure p c) (
    option_or (error_failure filter p c) (
    wanted_failure filter c))))
