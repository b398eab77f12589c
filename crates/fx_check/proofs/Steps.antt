-- The tests that are made one after the other.
use Rattle.std.specs.Prelude.{ℕ, ◌-◌, ◌^◌, pos, ◌+ℤ◌, ◌*ℤ◌, slice_index, Option}
use Rattle.fx_files.specs.Filter.{Filter}
use Rattle.fx_code.specs.Code.{Code, row_at}
use Rattle.fx_cert.specs.Certificate.{Certificate}
use Rattle.fx_sweep.specs.Target.{one}
use Rattle.fx_block.specs.Failure.{Failure, above, unequal}
use Rattle.fx_block.specs.Formats.{input_at, output_at}
use Rattle.fx_block.specs.Passes.{bound_at, error_at, pair_total, row_total}
use Rattle.fx_block.specs.declared.inequality.Inequality.TheVariants.{InputWidth, OutputWidth, Bound, Word, Sum}
use Rattle.fx_block.specs.declared.inequality.Inequality.TheVariants.{Error, Wanted}

abbrev pub input_width : Filter → Code → ℕ → Option Failure
input_width filter p j = unequal (InputWidth j) (slice_index p.inputs j) (input_at filter j).width

abbrev pub output_width : Filter → Code → ℕ → Option Failure
output_width filter p o =
    unequal (OutputWidth o) (row_at p (slice_index p.outputs o)).width (output_at filter o).width

abbrev pub bound : Filter → Code → Certificate → ℕ → Option Failure
bound filter p c j = above (Bound j) (row_total filter p c j) (pos (bound_at c j) *ℤ one)

abbrev pub word : Code → Certificate → ℕ → Option Failure
word p c i = above (Word i) (pos (bound_at c i)) (pos (2 ^ ((row_at p i).width - 1) - 1))

abbrev pub sum : Code → Certificate → ℕ → Option Failure
sum p c i =
    above (Sum i) (pos (2 ^ (row_at p i).own.shift) *ℤ (pos (bound_at c i) +ℤ pos 1)) (pos (2 ^ (p.accumulator - 1)))

abbrev pub error : Filter → Code → Certificate → ℕ → Option Failure
error filter p c o = above (Error o) (pair_total filter p c o) (error_at c o)

abbrev pub wanted : Filter → Certificate → ℕ → Option Failure
wanted filter c o = above (Wanted o) (error_at c o) (output_at filter o).target
