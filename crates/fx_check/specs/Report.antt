-- What a report tells: the verdict, and the parts of the total of each output's pair.
use Rattle.std.specs.Prelude.{◌≡◌, ℕ, nat_lt, cond, pos, ◌+ℤ◌, List, [], ◌∷◌, length, Option, Some, None}
use Rattle.std.specs.Option.{option_or}
use Rattle.fx_math.specs.Sums.{joined}
use Rattle.fx_eqs.specs.declared.limits.TheConstants.{PORTS}
use Rattle.fx_files.specs.Filter.{Filter}
use Rattle.fx_code.specs.Code.{Code}
use Rattle.fx_cert.specs.Certificate.{Certificate, output_length}
use Rattle.fx_sweep.specs.Target.{start_of}
use Rattle.fx_totals.specs.Totals.{input_part, rest_part, rounding, target_total, width_part}
use Rattle.fx_error.specs.PartsOf.{whole_of}
use Rattle.fx_error.specs.declared.parts.Parts.{Parts}
use Rattle.fx_block.specs.Failure.{Failure, first_failure, form_failure, range_failure}
use Rattle.fx_block.specs.Formats.{bound_of}
use Rattle.fx_block.specs.Passes.{bound_at, judged_net, pair_of}
use Rattle.fx_check.specs.Verdict.{failure_of}
use Rattle.fx_check.specs.declared.report.Report.{Report}

-- what the roundings add; what the inputs add and what was cut off the weights; and what lies before the block
abbrev pub parts_at : Filter → Code → Certificate → ℕ → Parts
parts_at filter p c o = record {
  rounding = rounding (judged_net filter p) (start_of (pair_of filter p o)) (output_length c o);
  difference =
      input_part (judged_net filter p) (start_of (pair_of filter p o)) (output_length c o) (bound_of filter)
      +ℤ width_part (judged_net filter p) (start_of (pair_of filter p o)) (output_length c o) (bound_at c);
  rest = rest_part (judged_net filter p) (start_of (pair_of filter p o)) (output_length c o) (bound_at c);
}

abbrev pub no_parts : Parts
no_parts = record { rounding = pos 0; difference = pos 0; rest = pos 0 }

-- those of output o, 0 past the outputs
abbrev pub output_parts : Filter → Code → Certificate → ℕ → Parts
output_parts filter p c o = cond (nat_lt o (length filter.outputs)) (parts_at filter p c o) no_parts

abbrev pub parts_of : Filter → Code → Certificate → List Parts
parts_of filter p c = joined PORTS (λ o. output_parts filter p c o ∷ [])

-- they are known where the form holds and no number of a sweep reaches its limit
abbrev pub parts_unless : Option Failure → List Parts → Option (List Parts)
parts_unless None parts = Some parts
parts_unless (Some failure) parts = None

abbrev pub known_parts : Filter → Code → Certificate → Option (List Parts)
known_parts filter p c =
    parts_unless (option_or (form_failure filter p c) (range_failure filter p c)) (parts_of filter p c)

pub record IsReportOf (filter : Filter) (p : Code) (c : Certificate) (report : Report) : Type 0 where
  pub verdict_is : failure_of report.verdict ≡ first_failure filter p c
  pub parts_are : report.parts ≡ known_parts filter p c

-- the parts of an output's error add up to the total of its pair, with which the certificate's error is compared
abbrev pub PartsAddUp : Type 0
PartsAddUp =
    (filter : Filter) (p : Code) (c : Certificate) (o : ℕ) → whole_of (parts_at filter p c o)
    ≡ target_total (judged_net filter p) (start_of (pair_of filter p o)) (output_length c o) (bound_of filter)
    (bound_at c)
