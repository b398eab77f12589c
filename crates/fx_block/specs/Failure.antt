-- The first inequality that fails, with both sides.
use Rattle.std.specs.Prelude.{ℕ, zero, suc, ◌+◌, ◌-◌, ◌^◌, ◌==◌, Bool, ℤ, pos, ◌+ℤ◌, ◌*ℤ◌, int_le, length}
use Rattle.std.specs.Prelude.{slice_index, Option, Some, None, if◌then◌else◌}
use Rattle.std.specs.Option.{option_or}
use Rattle.fx_nums.specs.declared.limits.TheConstants.{OPERAND_BITS}
use Rattle.fx_files.specs.Filter.{Filter}
use Rattle.fx_code.specs.Code.{Code, row_at}
use Rattle.fx_cert.specs.Certificate.{Certificate}
use Rattle.fx_sweep.specs.Target.{one}
use Rattle.fx_sweep.specs.declared.target.RangeAt.{RangeAt}
use Rattle.fx_block.specs.Formats.{input_at, output_at}
use Rattle.fx_block.specs.Passes.{bound_at, error_at, pair_range, pair_total, row_count, row_range, row_total}
use Rattle.fx_block.specs.declared.inequality.Inequality.{Inequality}
use Rattle.fx_block.specs.declared.inequality.Inequality.TheVariants.{Inputs, Outputs, Accumulator, InputWidth}
use Rattle.fx_block.specs.declared.inequality.Inequality.TheVariants.{OutputWidth, Rows, Errors, Sweep, Bound}
use Rattle.fx_block.specs.declared.inequality.Inequality.TheVariants.{Word, Sum, Error, Wanted}

pub record Failure : Type 0 where
  pub which : Inequality
  pub left : ℤ
  pub right : ℤ

-- ---- one test

abbrev pub unless : Bool → Inequality → ℤ → ℤ → Option Failure
unless holds which left right = if holds then None else Some (record { which = which; left = left; right = right })

-- where two numbers differ
abbrev pub unequal : Inequality → ℕ → ℕ → Option Failure
unequal which left right = unless (left == right) which (pos left) (pos right)

-- where the left one is above the right one
abbrev pub above : Inequality → ℤ → ℤ → Option Failure
above which left right = unless (int_le left right) which left right

-- where a sweep of target t reaches its limit
abbrev pub out_of_range : ℕ → Option RangeAt → Option Failure
out_of_range t None = None
out_of_range t (Some at) = Some (record { which = Sweep t at.place; left = at.value; right = pos (2 ^ OPERAND_BITS) })

-- the first of f 0, f 1, .., f (n - 1)
abbrev pub first_of : ℕ → (ℕ → Option Failure) → Option Failure
first_of zero f = None
first_of (suc n) f = option_or (first_of n f) (f n)

-- ---- the tests in their order

abbrev pub form_failure : Filter → Code → Certificate → Option Failure
form_failure filter p c =
    option_or (unequal Inputs (length p.inputs) (length filter.inputs)) (
    option_or (unequal Outputs (length p.outputs) (length filter.outputs)) (
    option_or (unequal Accumulator p.accumulator filter.settings.accumulator) (
    option_or (first_of (length filter.inputs) (λ j.
    unequal (InputWidth j) (slice_index p.inputs j) (input_at filter j).width)) (
    option_or (first_of (length filter.outputs) (λ o.
    unequal (OutputWidth o) (row_at p (slice_index p.outputs o)).width (output_at filter o).width)) (
    option_or (unequal Rows (length c.bounds) (row_count filter p)) (
    unequal Errors (length c.errors) (length filter.outputs)))))))

-- rows are the first targets, pairs come behind them
abbrev pub range_failure : Filter → Code → Certificate → Option Failure
range_failure filter p c =
    option_or
    (first_of (row_count filter p) (λ j. out_of_range j (row_range filter p c j)))
    (first_of (length filter.outputs) (λ o. out_of_range (row_count filter p + o) (pair_range filter p c o)))

abbrev pub bound_failure : Filter → Code → Certificate → Option Failure
bound_failure filter p c =
    first_of (row_count filter p) (λ j. above (Bound j) (row_total filter p c j) (pos (bound_at c j) *ℤ one))

abbrev pub word_failure : Code → Certificate → Option Failure
word_failure p c = first_of (length p.rows) (λ i.
    above (Word i) (pos (bound_at c i)) (pos (2 ^ ((row_at p i).width - 1) - 1)))

abbrev pub sum_failure : Code → Certificate → Option Failure
sum_failure p c =
    first_of (length p.rows) (λ i.
    above (Sum i) (pos (2 ^ (row_at p i).own.shift) *ℤ (pos (bound_at c i) +ℤ pos 1))
    (pos (2 ^ (p.accumulator - 1))))

abbrev pub error_failure : Filter → Code → Certificate → Option Failure
error_failure filter p c =
    first_of (length filter.outputs) (λ o. above (Error o) (pair_total filter p c o) (error_at c o))

abbrev pub wanted_failure : Filter → Certificate → Option Failure
wanted_failure filter c =
    first_of (length filter.outputs) (λ o. above (Wanted o) (error_at c o) (output_at filter o).target)

abbrev pub first_failure : Filter → Code → Certificate → Option Failure
first_failure filter p c =
    option_or (form_failure filter p c) (
    option_or (range_failure filter p c) (
    option_or (bound_failure filter p c) (
    option_or (word_failure p c) (
    option_or (sum_failure p c) (
    option_or (error_failure filter p c) (
    wanted_failure filter c))))))
